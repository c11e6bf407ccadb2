-- The cells of a file as a function of its bytes, and the lists of cells that the laws of levels take of told places.
use Rattle.std.specs.Prelude.{ℕ, ◌*◌, List, take, drop, Option}
use Rattle.cola_cell.specs.declared.cell.Cell.{Cell}
use Rattle.cola_cell.specs.declared.format.Format.{Format}
use Rattle.cola_cell.specs.Decoded.{spot_of_bytes}
use Rattle.cola_cell.specs.Flat.{spot_of}
use Rattle.cola_cell.specs.Format.{width}
use Rattle.cola_cell.specs.Held.{LawCell, Spot, Spots}
use Rattle.cola_cell.specs.Places.{number_of}
use Rattle.cola_cell.specs.ToldCells.{cell_at, cells}

-- the bytes of the cell with this number
abbrev pub cell_bytes : Format → List ℕ → ℕ → List ℕ
cell_bytes format bytes number = take (width format) (drop (width format * number) bytes)

-- what a file's bytes tell of the cell with this number
abbrev pub spot_at : Format → List ℕ → ℕ → Spot
spot_at format bytes number = spot_of_bytes format (cell_bytes format bytes number)

-- what a file's bytes tell of each place
abbrev pub file_spots : Format → List ℕ → Spots
file_spots format bytes level slot index = spot_at format bytes (number_of level slot index)

-- the first cells of a slot, so many: as the laws of levels take them
abbrev pub slot_cells : Spots → ℕ → ℕ → ℕ → List LawCell
slot_cells spots level slot count = cells (spots level slot) 0 count

-- a cell that was found or none, as the laws of levels take it
abbrev pub law_cell_of : Option Cell → LawCell
law_cell_of found = cell_at (spot_of found)
