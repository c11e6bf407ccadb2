-- A store that is filled with rows: the map that they give, and the file, by its header and its cells.
use Rattle.std.specs.Prelude.{◌≡◌, ℕ, zero, suc, ◌+◌, ◌-◌, ◌*◌, ◌/◌, ◌^◌, ◌≤◌, ◌<◌, true, false, List, [], ◌∷◌, length, map, take, All, Some, IsTrue, slice_index_or}
use Rattle.std.specs.FinMap as finite
use Rattle.cola_cell.specs.declared.cell.Cell.{Cell}
use Rattle.cola_cell.specs.declared.cell.Cell.TheVariants.{Item, Look}
use Rattle.cola_cell.specs.declared.cell.Item.TheVariants.{Value}
use Rattle.cola_cell.specs.Decoded.{decoded}
use Rattle.cola_cell.specs.Format.{width}
use Rattle.cola_cell.specs.Held.{LawCell, as_cell}
use Rattle.cola_cell.specs.Places.{number_of}
use Rattle.cola_layout.specs.Cells.{cell_bytes}
use Rattle.cola_image.specs.Worked.{puts_to}
use Rattle.cola_layout.specs.declared.geometry.Geometry.{Geometry}
use Rattle.cola_layout.specs.declared.marks.Marks.{Marks}
use Rattle.cola_layout.specs.Header.{Fields, IsSpelling}
use Rattle.cola_spec.specs.Map.{Shape, Stored, Map, key_cmp, EntryFits}

-- a key with its value, and the stamp of the put that gave it
pub record Row : Type 0 where
  pub key : List ℕ
  pub value : List ℕ
  pub stamp : ℕ

-- a row as a map stores it
abbrev pub entry_of : Row → List ℕ × Stored
entry_of row = (row.key, record { value = row.value; stamp = row.stamp })

-- the map that rows by strictly rising keys give, with this last stamp
abbrev pub map_of : ℕ → List Row → Map
map_of last rows = record { entries = finite.from_sorted (map entry_of rows); last = last }

-- a stored entry of a map as a row, and all of them by rising keys
abbrev pub row_of_entry : List ℕ × Stored → Row
row_of_entry entry = record { key = entry.0; value = entry.1.value; stamp = entry.1.stamp }

abbrev pub rows_of : Map → List Row
rows_of m = map row_of_entry (finite.entries m.entries)

-- rows that a store may be filled with: by strictly rising keys, no more than it is for, and each within its limits, with a
-- stamp of at most this
pub record AreRows (shape : Shape) (last : ℕ) (rows : List Row) : Type 0 where
  pub rising : IsTrue (finite.is_sorted key_cmp (map entry_of rows))
  pub few : length rows ≤ shape.limit
  pub fitting : All (EntryFits shape last) (map entry_of rows)

-- how many cells the run has that lies so many levels above the bottom: one for each eight of the run below it
abbrev pub run_len : ℕ → ℕ → ℕ
run_len rows height = rows / 8 ^ height

abbrev pub no_row : Row
no_row = record { key = []; value = []; stamp = 0 }

abbrev pub row_at : List Row → ℕ → Row
row_at rows index = slice_index_or rows index no_row

-- the cell of a row at the bottom: an old value with link 0
abbrev pub bottom_cell : Row → Cell
bottom_cell row = Item row.key (Value row.value row.stamp) false 0

-- the cell at an index of the run that lies so many levels above the bottom: at the bottom that of the row; above it a lookahead
-- cell for the last of the eight cells below that it stands for, with the link to the first of them
abbrev pub filled_cell : List Row → ℕ → ℕ → Cell
filled_cell rows zero index = bottom_cell (row_at rows index)
filled_cell rows (suc height) index = Look (row_at rows (8 ^ suc height * suc index - 1)).key (8 * index)

-- the run of the bottom, as the laws of levels have it
abbrev pub bottom_run : List Row → List LawCell
bottom_run rows = map (λ row. as_cell (bottom_cell row)) rows

-- the marks of a level with so many visible cells, in slot 0, and nothing else
abbrev pub filled_marks : ℕ → Marks
filled_marks visible = record { visible = visible; shadow = 0; own = 0; incoming = 0; sample = 0 }

-- those of the level so many levels above the bottom, and of all below it
abbrev pub marks_from : ℕ → ℕ → List Marks
marks_from rows zero = filled_marks (run_len rows zero) ∷ []
marks_from rows (suc height) = filled_marks (run_len rows (suc height)) ∷ marks_from rows height

-- the header of a closed store at clock 0, with so many rows
abbrev pub filled_header : Geometry → ℕ → ℕ → Fields
filled_header geometry last rows = record {
  format = geometry.format;
  block_exp = geometry.block_exp;
  bottom = geometry.bottom;
  closed = true;
  keys = geometry.keys;
  count = rows;
  clock = 0;
  last = last;
  levels = marks_from rows geometry.bottom;
}

-- the file has at each place of these runs what spells its cell
abbrev pub HasFilledCells : Geometry → List Row → List ℕ → Type 0
HasFilledCells geometry rows bytes = (level index : ℕ) → level ≤ geometry.bottom → index < run_len (length rows) (geometry.bottom - level)
    → decoded geometry.format (cell_bytes geometry.format bytes (number_of level 0 index)) ≡ Some (filled_cell rows (geometry.bottom - level) index)

-- the file of a store that is filled with rows: its header, its cells and its size
pub record IsFilled (geometry : Geometry) (last : ℕ) (rows : List Row) (bytes : List ℕ) : Type 0 where
  pub header : IsSpelling (filled_header geometry last (length rows)) (take 512 bytes)
  pub cells : HasFilledCells geometry rows bytes
  pub whole : length bytes ≡ width geometry.format * 2 ^ (geometry.bottom + 4)

-- worked rows, the first so many: k01 with the value 1, k02 with 2 and so on
abbrev pub worked_rows : ℕ → List Row
worked_rows many = map (λ put. record { key = put.0; value = put.1; stamp = 0 }) (puts_to many)
