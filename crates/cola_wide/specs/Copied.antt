-- What the bytes of a file of format One, and those of its copy in format Two, have to do with each other.
use Rattle.std.specs.Prelude.{◌≡◌, ℕ, ◌+◌, ◌-◌, ◌*◌, ◌^◌, ◌<◌, ◌≤◌, List, ◌∷◌, ◌++◌, length, take, drop, replicate}
use Rattle.cola_cell.specs.declared.cell.Cell.{Cell}
use Rattle.cola_cell.specs.declared.format.Format.TheVariants.{One, Two}
use Rattle.cola_cell.specs.Cell.{stamp_of}
use Rattle.cola_cell.specs.Format.{width}
use Rattle.cola_cell.specs.Spelling.{IsSpelling, IsNoSpelling}
use Rattle.cola_device.specs.Bytes.{part}
use Rattle.cola_layout.specs.Header.{Fields}
use Rattle.cola_layout.specs.Header as layout
use Rattle.cola_spec.specs.Map.{Map}
use Rattle.cola_layout.specs.Cells.{cell_bytes}
use Rattle.cola_image.specs.Standing.{HeaderStandsFor}
use Rattle.cola_wide.specs.Runs.{IsOfRun}

-- the cells of a file
abbrev pub cells_of : Fields → ℕ
cells_of header = 2 ^ (header.bottom + 4)

-- the cells of a block
abbrev pub block_cells : Fields → ℕ
block_cells header = 2 ^ header.block_exp

-- the blocks of a file: all its cells by the cells of a block
abbrev pub block_count : Fields → ℕ
block_count header = 2 ^ (header.bottom + 4 - header.block_exp)

-- the bytes of the copy
abbrev pub wide_size : Fields → ℕ
wide_size header = width Two * cells_of header

-- the header of the copy: another format, and all else as it was
abbrev pub wide_header : Fields → Fields
wide_header header = record header { format = Two }

-- a header's bytes with another version
abbrev pub with_version : ℕ → List ℕ → List ℕ
with_version version bytes = take 8 bytes ++ version ∷ drop 9 bytes

-- the bytes of format One spell a cell
abbrev pub IsSpelled : List ℕ → Type 0
IsSpelled bytes = (cell : Cell) × IsSpelling One cell bytes

-- bytes of format One and bytes of format Two spell the same cell, and its stamp is 0
pub record SpellSameCell (one two : List ℕ) : Type 0 where
  pub cell : Cell
  pub was : IsSpelling One cell one
  pub is : IsSpelling Two cell two
  pub no_stamp : stamp_of cell ≡ 0

-- the cell with this number is copied: a cell of a run is the same cell, and any other is zero
pub record IsCopied (header : Fields) (number : ℕ) (one two : List ℕ) : Type 0 where
  pub run : IsOfRun header number → SpellSameCell one two
  pub other : (IsOfRun header number → ⊥) → two ≡ replicate 128 0

-- the cell with this number is one of a run, and its bytes spell none
pub record IsBad (header : Fields) (number : ℕ) (one : List ℕ) : Type 0 where
  pub run : IsOfRun header number
  pub none : IsNoSpelling One one

-- the cells of a block whose first has this number are copied, so many
abbrev pub IsBlockCopied : Fields → ℕ → ℕ → List ℕ → List ℕ → Type 0
IsBlockCopied header first count one two =
    (k : ℕ) → k < count → IsCopied header (first + k) (cell_bytes One one k) (cell_bytes Two two k)

-- in such a block every cell of a run is spelled, of the first so many
abbrev pub IsBlockSpelled : Fields → ℕ → ℕ → List ℕ → Type 0
IsBlockSpelled header first count one = (k : ℕ) → k < count → IsOfRun header (first + k) → IsSpelled (cell_bytes One one k)

-- in such a block this cell is the lowest of the runs that is no spelling
pub record IsBlockBad (header : Fields) (first count : ℕ) (one : List ℕ) (number : ℕ) : Type 0 where
  pub place : ℕ
  pub within : place < count
  pub at : number ≡ first + place
  pub bad : IsBad header (first + place) (cell_bytes One one place)
  pub lowest : IsBlockSpelled header first place one

-- a block of the copy, whose first cell has this number: its cells are those of the file
abbrev pub IsBlockOf : Fields → ℕ → List ℕ → List ℕ → Type 0
IsBlockOf header first old wide =
    (k : ℕ) → k < block_cells header → IsCopied header (first + k) (cell_bytes One old (first + k)) (cell_bytes Two wide k)

-- every cell of a run with a number from one up to another is spelled
abbrev pub AreSpelled : Fields → ℕ → ℕ → List ℕ → Type 0
AreSpelled header low high old = (number : ℕ) → low ≤ number → number < high → IsOfRun header number → IsSpelled (cell_bytes One old number)

-- every cell with a number from one up to another is copied
abbrev pub AreCopied : Fields → ℕ → ℕ → List ℕ → List ℕ → Type 0
AreCopied header low high old new =
    (number : ℕ) → low ≤ number → number < high → IsCopied header number (cell_bytes One old number) (cell_bytes Two new number)

-- of the cells of runs from a number on this is the lowest that is no spelling
pub record IsLowestBad (header : Fields) (low number : ℕ) (old : List ℕ) : Type 0 where
  pub from : low ≤ number
  pub within : number < cells_of header
  pub bad : IsBad header number (cell_bytes One old number)
  pub lowest : AreSpelled header low number old

-- a copy that was begun: it has all its bytes, and no header yet
pub record IsBegun (header : Fields) (new : List ℕ) : Type 0 where
  pub size : length new ≡ wide_size header
  pub no_header : take 512 new ≡ replicate 512 0

-- a copy that has these first 512 bytes, zero bytes behind them, and each cell of the runs
pub record IsFilled (header : Fields) (head old new : List ℕ) : Type 0 where
  pub head_is : take 512 new ≡ head
  pub behind_head : part new 512 512 ≡ replicate 512 0
  pub cells : AreCopied header 8 (cells_of header) old new

-- the copy of a file with this header: the header but for the version, with the last number 0, zero bytes behind it, each
-- cell of each run at its number; and it stands for each map, in a store for as many keys, that the file stands for
pub record IsCopyOf (header : Fields) (old new : List ℕ) : Type 0 where
  pub size : length new ≡ wide_size header
  pub head : take 512 new ≡ with_version 2 (take 512 old)
  pub spelled : layout.IsSpelling (wide_header header) (take 512 new)
  pub last : header.last ≡ 0
  pub behind_head : part new 512 512 ≡ replicate 512 0
  pub cells : AreCopied header 8 (cells_of header) old new
  pub stands : (m : Map) → HeaderStandsFor header old m → HeaderStandsFor (wide_header header) new m
