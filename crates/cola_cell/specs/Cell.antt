-- The parts of a cell, as its bytes have them.
use Rattle.std.specs.Prelude.{◌≡◌, ◌≤◌, ◌<◌, ℕ, List, [], if◌then◌else◌}
use Rattle.cola_cell.specs.declared.cell.Item.{Item}
use Rattle.cola_cell.specs.declared.cell.Item.TheVariants.{Value, Tombstone}
use Rattle.cola_cell.specs.declared.cell.Cell.{Cell}
use Rattle.cola_cell.specs.declared.cell.Cell.TheVariants as cell

-- the value of an item; none where it is a tombstone
abbrev pub item_value : Item → List ℕ
item_value (Value value stamp) = value
item_value Tombstone = []

-- the stamp of an item; 0 where it is a tombstone
abbrev pub item_stamp : Item → ℕ
item_stamp (Value value stamp) = stamp
item_stamp Tombstone = 0

-- 0 where the item is a value, 1 where it is a tombstone
abbrev pub item_kind : Item → ℕ
item_kind (Value value stamp) = 0
item_kind Tombstone = 1

-- the key of a cell
abbrev pub key_of : Cell → List ℕ
key_of (cell.Item key item young link) = key
key_of (cell.Look key link) = key

-- the link of a cell
abbrev pub link_of : Cell → ℕ
link_of (cell.Item key item young link) = link
link_of (cell.Look key link) = link

-- the kind of a cell: 0 a value, 1 a tombstone, 2 a lookahead cell
abbrev pub kind_of : Cell → ℕ
kind_of (cell.Item key item young link) = item_kind item
kind_of (cell.Look key link) = 2

-- 1 where the cell is a young item, else 0
abbrev pub young_of : Cell → ℕ
young_of (cell.Item key item young link) = if young then 1 else 0
young_of (cell.Look key link) = 0

-- the value of a cell; none where it is no value
abbrev pub value_of : Cell → List ℕ
value_of (cell.Item key item young link) = item_value item
value_of (cell.Look key link) = []

-- the stamp of a cell; 0 where it is no value
abbrev pub stamp_of : Cell → ℕ
stamp_of (cell.Item key item young link) = item_stamp item
stamp_of (cell.Look key link) = 0

-- some cell has this kind and youth, with a value of this length and this stamp: a lookahead cell is
-- never young, and what is no value has neither value nor stamp
abbrev pub KindIs : ℕ → ℕ → ℕ → ℕ → Type 0
KindIs kind young value_length stamp =
    (kind ≤ 2) × (young ≤ 1) × (kind ≡ 2 → young ≡ 0) × (0 < kind → value_length ≡ 0) × (0 < kind → stamp ≡ 0)
