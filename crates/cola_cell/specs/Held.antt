-- What an object of cells holds.
use Rattle.std.specs.Prelude.{◌≡◌, ◌≢◌, ◌⊎◌, ℕ, ◌*◌, ◌^◌, List, Bool, true, false, ⊤}
use Rattle.cola_abstract.specs.Cell as laws
use Rattle.cola_cell.specs.declared.format.Format.{Format}
use Rattle.cola_cell.specs.declared.cell.Item.{Item}
use Rattle.cola_cell.specs.declared.cell.Item.TheVariants.{Value, Tombstone}
use Rattle.cola_cell.specs.declared.cell.Cell.{Cell}
use Rattle.cola_cell.specs.declared.cell.Cell.TheVariants as cell
use Rattle.cola_cell.specs.declared.sink.Shadow.{Shadow}
use Rattle.cola_cell.specs.Places.{IsPlace}

-- a value with its stamp
pub record Stamped : Type 0 where
  pub value : List ℕ
  pub stamp : ℕ

-- a cell as the laws of runs have it: its key is a list of bytes, its value one with a stamp
abbrev pub LawCell : Type 0
LawCell = laws.Cell (List ℕ) Stamped

-- an item as the laws have it
abbrev pub as_item : Item → laws.Item Stamped
as_item (Value value stamp) = laws.Value (record { value = value; stamp = stamp })
as_item Tombstone = laws.Tombstone

-- a cell as the laws have it
abbrev pub as_cell : Cell → LawCell
as_cell (cell.Item key item young link) = laws.Entry key (as_item item) young link
as_cell (cell.Look key link) = laws.Look key link

-- what an object tells of a place: nothing, that its bytes spell no cell, or its cell
pub data Spot : Type 0 where
  Untold : Spot
  Bad : Spot
  Told : LawCell → Spot

-- whether nothing is told of a place
abbrev pub is_untold : Spot → Bool
is_untold Untold = true
is_untold Bad = false
is_untold (Told c) = false

-- where a place is told, this stands there
abbrev pub Tells : Spot → Spot → Type 0
Tells Untold found = ⊤
Tells Bad found = Bad ≡ found
Tells (Told c) found = Told c ≡ found

-- a place after a cell was put there: what was untold stays so
abbrev pub with_cell : Spot → LawCell → Spot
with_cell Untold c = Untold
with_cell Bad c = Told c
with_cell (Told b) c = Told c

-- the reads and the faults of the device when the object was made
pub record Made : Type 0 where
  pub reads : ℕ
  pub faults : ℕ

-- what no call changes: the number of levels, the format, and how many times the eight cells of the smallest block are doubled
pub record Fixed : Type 0 where
  pub levels : ℕ
  pub doublings : ℕ
  pub format : Format
  pub made : Made

-- what is told of each place: by level, slot and index
abbrev pub Spots : Type 0
Spots = ℕ → ℕ → ℕ → Spot

-- what an object holds: that which no call changes, its cells, and the shadow of each level
pub record Held : Type 0 where
  pub fixed : Fixed
  pub spots : Spots
  pub shadows : ℕ → Shadow

-- the cells of a block
abbrev pub span : Held → ℕ
span held = 8 * 2 ^ held.fixed.doublings

-- a place of the object
abbrev pub HasPlace : Held → ℕ → ℕ → ℕ → Type 0
HasPlace held = IsPlace held.fixed.levels

-- every place is told
abbrev pub IsTelling : Held → Type 0
IsTelling held = (level slot index : ℕ) → HasPlace held level slot index → is_untold (held.spots level slot index) ≡ false

-- the place is another one
abbrev pub IsElsewhere : (level slot index l s i : ℕ) → Type 0
IsElsewhere level slot index l s i = (l ≢ level) ⊎ (s ≢ slot) ⊎ (i ≢ index)
