-- The sizes of a format, and what fits it.
use Rattle.std.specs.Prelude.{ℕ, ◌≤◌, ◌^◌, List, length}
use Rattle.cola_cell.specs.declared.format.Format.{Format}
use Rattle.cola_cell.specs.declared.format.Format.TheVariants.{One, Two}
use Rattle.cola_cell.specs.declared.cell.Item.{Item}
use Rattle.cola_cell.specs.declared.cell.Item.TheVariants.{Value, Tombstone}
use Rattle.cola_cell.specs.declared.cell.Cell.{Cell}
use Rattle.cola_cell.specs.declared.cell.Cell.TheVariants as cell

-- the bytes of a cell
abbrev pub width : Format → ℕ
width One = 64
width Two = 128

-- the bytes of the longest key
abbrev pub key_limit : Format → ℕ
key_limit One = 24
key_limit Two = 40

-- the bytes of the longest value
abbrev pub value_limit : Format → ℕ
value_limit One = 32
value_limit Two = 72

-- the largest stamp
abbrev pub stamp_limit : Format → ℕ
stamp_limit One = 0
stamp_limit Two = 2 ^ 63

-- a key of these bytes fits the format
abbrev pub KeyFits : Format → List ℕ → Type 0
KeyFits format key = length key ≤ key_limit format

-- a value of these bytes fits the format
abbrev pub ValueFits : Format → List ℕ → Type 0
ValueFits format value = length value ≤ value_limit format

-- an item fits where its value and its stamp do; a tombstone always does
abbrev pub ItemFits : Format → Item → Type 0
ItemFits format (Value value stamp) = ValueFits format value × (stamp ≤ stamp_limit format)
ItemFits format Tombstone = Unit {0}

-- a cell fits where its key and its item do
abbrev pub CellFits : Format → Cell → Type 0
CellFits format (cell.Item key item young link) = KeyFits format key × ItemFits format item
CellFits format (cell.Look key link) = KeyFits format key
