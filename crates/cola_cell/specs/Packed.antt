-- What a call on a packed cell asks and makes of it.
use Rattle.std.specs.Prelude.{◌≡◌, ℕ, Bool, true, false, Option, Some, None, Result, Ok, Err, ⊤}
use Rattle.cola_cell.specs.declared.cell.Item.{Item}
use Rattle.cola_cell.specs.declared.cell.Item.TheVariants.{Value, Tombstone}
use Rattle.cola_cell.specs.declared.cell.Cell.{Cell}
use Rattle.cola_cell.specs.declared.cell.Cell.TheVariants as cell
use Rattle.cola_cell.specs.declared.packed.Pass.{Pass}
use Rattle.cola_cell.specs.declared.packed.Pass.TheVariants as pass
use Rattle.cola_cell.specs.Cell.{key_of}

-- whether it is a lookahead cell
abbrev pub is_look : Cell → Bool
is_look (cell.Item key item young link) = false
is_look (cell.Look key link) = true

-- whether it is the tombstone of an item
abbrev pub is_tombstone : Cell → Bool
is_tombstone (cell.Item key (Value value stamp) young link) = false
is_tombstone (cell.Item key Tombstone young link) = true
is_tombstone (cell.Look key link) = false

-- whether it is a young item
abbrev pub is_young : Cell → Bool
is_young (cell.Item key item young link) = young
is_young (cell.Look key link) = false

-- its item, if it has one
abbrev pub item_of : Cell → Option Item
item_of (cell.Item key item young link) = Some item
item_of (cell.Look key link) = None

-- the cell with this youth, where it is an item, and this link
abbrev pub renewed : Bool → ℕ → Cell → Cell
renewed now next (cell.Item key item young link) = cell.Item key item now next
renewed now next (cell.Look key link) = cell.Look key next

-- what a read into a packed cell answers: the cell that it has afterwards, or why it was refused
abbrev pub given : {E : Type 0} → Cell → Result (Unit {0}) E → Result Cell E
given c (Ok a) = Ok c
given c (Err fault) = Err fault

-- what becomes of a cell that is passed on so
abbrev pub passed : Pass → Cell → Cell
passed (pass.Item young link) c = renewed young link c
passed (pass.Look link) c = cell.Look (key_of c) link

-- only an item is passed on as one
abbrev pub MayPass : Pass → Cell → Type 0
MayPass (pass.Item young link) c = is_look c ≡ false
MayPass (pass.Look link) c = ⊤
