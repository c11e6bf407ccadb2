-- Blocks 0 and 1 in memory: what contracts see of them, and their bytes on a device.
use Rattle.std.specs.Prelude.{◌≡◌, ℕ, ◌-◌, ◌*◌, ◌^◌, ◌≤◌, ◌<◌, nat_lt, if◌then◌else◌, List, [], ◌∷◌, ◌++◌, take, drop, map, length, replicate, Option, None, Some, IfSome, Result, OnErr, ◌⊎◌, slice_index_or, slice_set}
use Rattle.std.specs.List.{range_with_len}
use Rattle.cola_cell.specs.declared.format.Format.{Format}
use Rattle.cola_cell.specs.declared.cell.Cell.{Cell}
use Rattle.cola_cell.specs.Format.{width}
use Rattle.cola_cell.specs.Spelling.{IsSpelling}
use Rattle.cola_cell.specs.Decoded.{decoded, spelling}
use Rattle.cola_device.specs.Bytes.{part}

-- the format; the number of cells of a block; and what stands at each place of both blocks, by the number of its cell:
-- none where its bytes spell no cell, and none at the eight places of the header
pub record FrontCells : Type 0 where
  pub format : Format
  pub block : ℕ
  pub cells : List (Option Cell)

-- what stands at a place
abbrev pub cell_at : FrontCells → ℕ → Option Cell
cell_at front place = slice_index_or front.cells place None

-- the bytes of a block
abbrev pub block_size : FrontCells → ℕ
block_size front = width front.format * front.block

-- the bytes of the cell with this number
abbrev pub cell_bytes : Format → List ℕ → ℕ → List ℕ
cell_bytes format bytes number = part bytes (width format * number) (width format)

-- the cell that bytes spell at the place of this number, or none
abbrev pub spelled_at : Format → List ℕ → ℕ → Option Cell
spelled_at format bytes number = decoded format (cell_bytes format bytes number)

-- what the bytes of both blocks spell at a place: no cell at the eight places of the header
abbrev pub place_in : Format → List ℕ → ℕ → Option Cell
place_in format bytes place = if nat_lt place 8 then None else spelled_at format bytes place

-- what they spell at so many places, from one on
abbrev pub places_in : Format → List ℕ → (first count : ℕ) → List (Option Cell)
places_in format bytes first count = map (place_in format bytes) (range_with_len first count)

-- the front that the bytes of both blocks spell
abbrev pub front_of : Format → ℕ → List ℕ → FrontCells
front_of format block bytes = record { format = format; block = block; cells = places_in format bytes 0 (2 * block) }

-- these are the bytes of both blocks
pub record AreBlocks (format : Format) (block : ℕ) (bytes : List ℕ) : Type 0 where
  pub some : 8 ≤ block
  pub few : block ≤ 512
  pub whole : length bytes ≡ width format * (2 * block)

-- the bytes as which a place is stored: zeros where no cell stands
abbrev pub stored : Format → Option Cell → List ℕ
stored format None = replicate (width format) 0
stored format (Some cell) = spelling format cell

-- a cell whose bytes spell it
abbrev pub IsSpelled : Format → Cell → Type 0
IsSpelled format cell = IsSpelling format cell (spelling format cell)

-- the bytes of places, one behind the other
abbrev pub stored_all : Format → List (Option Cell) → List ℕ
stored_all format [] = []
stored_all format (cell ∷ cells) = stored format cell ++ stored_all format cells

-- a place whose stored bytes spell what stands there
abbrev pub ComesBack : Format → Option Cell → Type 0
ComesBack format cell = decoded format (stored format cell) ≡ cell

-- what a front may be
pub record IsFront (front : FrontCells) : Type 0 where
  pub some : 8 ≤ front.block
  pub few : front.block ≤ 512
  pub many : length front.cells ≡ 2 * front.block
  -- the places of the header have no cell
  pub header : (place : ℕ) → place < 8 → cell_at front place ≡ None
  -- each cell has a spelling in the format, and zeros spell none
  pub comes_back : (place : ℕ) → ComesBack front.format (cell_at front place)

-- a front in which no cell stands
abbrev pub new_front : ℕ → Format → FrontCells
new_front block_exp format = record { format = format; block = 2 ^ block_exp; cells = replicate (2 * 2 ^ block_exp) None }

-- a front with this cell at a place
abbrev pub front_with : FrontCells → ℕ → Cell → FrontCells
front_with front place cell = record front { cells = slice_set front.cells place (Some cell) }

-- each place from one up to another has what these bytes spell there
abbrev pub AreSpelled : Format → List (Option Cell) → (from to : ℕ) → List ℕ → Type 0
AreSpelled format cells from to bytes = (place : ℕ) → from ≤ place → place < to →
    slice_index_or cells place None ≡ spelled_at format bytes place

-- each place from one up to another has what a file spells there, where its bytes are told
abbrev pub AreRead : Option (List ℕ) → Format → List (Option Cell) → (from to : ℕ) → Type 0
AreRead told format cells from to = IfSome told (AreSpelled format cells from to)

-- each place from one up to another has what the bytes of a block spell there, which begins at the place `first`
abbrev pub AreTaken : Format → List (Option Cell) → (first from to : ℕ) → List ℕ → Type 0
AreTaken format cells first from to block = (place : ℕ) → from ≤ place → place < to →
    slice_index_or cells place None ≡ spelled_at format block (place - first)

-- what stands at each place below this one is as before
abbrev pub SameBelow : (before now : List (Option Cell)) → ℕ → Type 0
SameBelow before now end = (place : ℕ) → place < end →
    slice_index_or now place None ≡ slice_index_or before place None

-- what stands at each place from this one on is as before
abbrev pub SameFrom : (before now : List (Option Cell)) → ℕ → Type 0
SameFrom before now start = (place : ℕ) → start ≤ place →
    slice_index_or now place None ≡ slice_index_or before place None

-- each place behind the header has what a file's bytes spell there
abbrev pub IsLoaded : List ℕ → FrontCells → Type 0
IsLoaded bytes front = (place : ℕ) → 8 ≤ place → place < 2 * front.block → cell_at front place ≡ spelled_at front.format bytes place

-- the format and the size of a block stay
pub record SameShape (before now : FrontCells) : Type 0 where
  pub format : now.format ≡ before.format
  pub block : now.block ≡ before.block

-- the bytes of block 0: the header, zeros up to the end of its eight cells, and the cells behind them
abbrev pub first_block : FrontCells → List ℕ → List ℕ
first_block front header = header ++ drop 512 (stored_all front.format (take front.block front.cells))

-- the bytes of block 1
abbrev pub second_block : FrontCells → List ℕ
second_block front = stored_all front.format (drop front.block front.cells)

-- the bytes of blocks 0 and 1: the header, zeros up to the end of its eight cells, and the cells behind them
abbrev pub image : FrontCells → List ℕ → List ℕ
image front header = header ++ drop 512 (stored_all front.format front.cells)

-- after a refusal block 0 is as it was, or block 1 was written before it
abbrev pub InOrder : {T E : Type 0} → Result T E → FrontCells → List ℕ → List ℕ → Type 0
InOrder result front before now =
    OnErr result ((part now 0 (block_size front) ≡ part before 0 (block_size front)) ⊎ (part now (block_size front) (block_size front) ≡ second_block front))
