-- The cells, parts, actions and builds of the plain programs as those of the definitions.
use Rattle.std.specs.Prelude.{ℕ, suc, List, map}
use Rattle.std.specs.Option.{option_map}
use Rattle.cola_plain_runs.specs.declared.cells.PlainItem.{PlainItem}
use Rattle.cola_plain_runs.specs.declared.cells.PlainItem.TheVariants as item
use Rattle.cola_plain_runs.specs.declared.cells.PlainCell.{PlainCell}
use Rattle.cola_plain_runs.specs.declared.cells.PlainCell.TheVariants as cell
use Rattle.cola_plain_runs.specs.declared.cells.PlainPart.{PlainPart}
use Rattle.cola_plain_runs.specs.declared.merge.PlainHead.{PlainHead}
use Rattle.cola_plain_runs.specs.declared.merge.PlainHead.TheVariants as head
use Rattle.cola_plain_runs.specs.declared.merge.PlainAction.{PlainAction}
use Rattle.cola_plain_runs.specs.declared.merge.PlainAction.TheVariants as action
use Rattle.cola_plain_runs.specs.declared.merge.PlainBuild.{PlainBuild}
use Rattle.cola_runs.specs.Cells.{Item, Value, Tombstone, Cell, Entry, Look}
use Rattle.cola_runs.specs.Weave.{Part}
use Rattle.cola_runs.specs.Steps.{Head, Own, Incoming, Sample, Action, Take, Ended, Build}

-- the item that a plain item is
abbrev pub as_item : {V : Type 0} → PlainItem V → Item V
as_item (item.Value v) = Value v
as_item item.Tombstone = Tombstone

-- the cell that a plain cell is
abbrev pub as_cell : {K V : Type 0} → PlainCell K V → Cell K V
as_cell (cell.Entry k i y l) = Entry k (as_item i) y l
as_cell (cell.Look k l) = Look k l

-- the run that a list of plain cells is
abbrev pub as_run : {K V : Type 0} → List (PlainCell K V) → List (Cell K V)
as_run = map as_cell

-- the part that a plain part is
abbrev pub as_part : PlainPart → Part
as_part p = record { only_young = p.only_young; marks_young = p.marks_young; drops_tombstones = p.drops_tombstones }

-- the head that a plain head names
abbrev pub as_head : PlainHead → Head
as_head head.Own = Own
as_head head.Incoming = Incoming
as_head head.Sample = Sample

-- the action that a plain action is
abbrev pub as_action : {K V : Type 0} → PlainAction K V → Action K V
as_action (action.Take h c) = Take (as_head h) (option_map as_cell c)
as_action action.Ended = Ended

-- the build that a plain build is
abbrev pub as_build : {K V : Type 0} → PlainBuild K V → Build K V
as_build b = record { own = b.own; incoming = b.incoming; sampled = b.sampled; done = as_run b.done.items }

-- the own cursor once this head is consumed
abbrev pub own_after : PlainHead → ℕ → ℕ
own_after head.Own n = suc n
own_after head.Incoming n = n
own_after head.Sample n = n

-- the incoming cursor
abbrev pub incoming_after : PlainHead → ℕ → ℕ
incoming_after head.Own n = n
incoming_after head.Incoming n = suc n
incoming_after head.Sample n = n

-- the sample cursor
abbrev pub sampled_after : PlainHead → ℕ → ℕ
sampled_after head.Own n = n
sampled_after head.Incoming n = n
sampled_after head.Sample n = suc n

-- the cell with this link
abbrev pub linked_to : {K V : Type 0} → ℕ → Cell K V → Cell K V
linked_to link (Entry k i y l) = Entry k i y link
linked_to link (Look k l) = Look k link
