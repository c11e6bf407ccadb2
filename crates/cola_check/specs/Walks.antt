-- A walk over one run: how it stands there, what is left of the run, and what it passes.
use Rattle.std.specs.Prelude.{◌≡◌, ◌≢◌, ℕ, ◌+◌, ◌-◌, ◌≤◌, ◌<◌, Bool, false, cond, List, [], ◌∷◌, drop, Option, None, Some, Result, Ok, Err, ⊤, IsTrue}
use Rattle.std.specs.Borrow.{Bor}
use Rattle.std.specs.Option.{option_map}
use Rattle.std.specs.Ordering.{is_eq, is_lt}
use Rattle.cola_runs.specs.Cells as laws
use Rattle.cola_runs.specs.Seen as seen
use Rattle.cola_runs.specs.Seen.{Seen, flagged}
use Rattle.cola_pairs.specs.Walk.{pass_key}
use Rattle.cola_cell.specs.declared.cell.Cell.{Cell}
use Rattle.cola_cell.specs.declared.cell.Cell.TheVariants as cell
use Rattle.cola_cell.specs.declared.cell.Run.{Run}
use Rattle.cola_cell.specs.declared.cell.Reader.{Reader}
use Rattle.cola_cell.specs.declared.fault.ReadFault.{ReadFault}
use Rattle.cola_cell.specs.Cell.{key_of}
use Rattle.cola_cell.specs.Held.{Held, Told, Tells, LawCell, Stamped, as_cell, as_item}
use Rattle.cola_cell.specs.Order.{key_cmp}
use Rattle.cola_cell.specs.Spent.{Buffer, By, Spent}
use Rattle.cola_cell.specs.State.{State}
use Rattle.cola_cell.specs.Costs.{Costs}
use Rattle.cola_look.specs.Runs.{HasRun}
use Rattle.cola_cell.specs.ToldCells.{run_cells}
use Rattle.cola_check.specs.declared.walk.Found.{Found}
use Rattle.cola_check.specs.declared.walk.Found.TheVariants.{Nothing, Old, Young}
use Rattle.cola_check.specs.declared.walk.Walk.{Walk}
use Rattle.cola_check.specs.Blocks.{blocks_from}
use Rattle.cola_check.specs.Reading.{IsRunTold}

-- what was found of a key, as the laws of runs have it
abbrev pub as_seen : Found → Seen Stamped
as_seen Nothing = seen.Nothing
as_seen (Old item) = seen.Old (as_item item)
as_seen (Young item) = seen.Young (as_item item)

-- the first of two that is something
abbrev pub found_or : Found → Found → Found
found_or Nothing later = later
found_or (Old item) later = Old item
found_or (Young item) later = Young item

-- what a head has of its key
abbrev pub found_of : Option Cell → Found
found_of None = Nothing
found_of (Some (cell.Item key item young link)) = cond young (Young item) (Old item)
found_of (Some (cell.Look key link)) = Nothing

-- the head has this key
abbrev pub has_key : List ℕ → Option Cell → Bool
has_key key None = false
has_key key (Some cell) = is_eq (key_cmp key (key_of cell))

-- the key of a cell that is lent, if there is one
abbrev pub key_in : Option (Bor Cell) → Option (List ℕ)
key_in = option_map (λ cell. key_of cell.now)

-- the lesser of a key and that of a head, where there is one of them or both
abbrev pub lesser : Option (List ℕ) → Option Cell → Option (List ℕ)
lesser least None = least
lesser None (Some cell) = Some (key_of cell)
lesser (Some key) (Some cell) = cond (is_lt (key_cmp (key_of cell) key)) (Some (key_of cell)) (Some key)

-- the least key of the heads of walks, and of one more key
abbrev pub least_from : Option (List ℕ) → List Walk → Option (List ℕ)
least_from least [] = least
least_from least (walk ∷ walks) = least_from (lesser least walk.head) walks

-- a head that is kept is the cell at the place, which is within the run
abbrev pub HeadFits : Held → Run → ℕ → Option Cell → Type 0
HeadFits held run at None = ⊤
HeadFits held run at (Some cell) = (at < run.len) × Tells (held.spots run.level run.slot at) (Told (as_cell cell))

-- a walk over a run of the object: it stands within the run or at its end, and its head is the cell there
pub record WalkFits (held : Held) (walk : Walk) : Type 0 where
  pub run : HasRun held walk.run
  pub at_in : walk.at ≤ walk.run.len
  pub head : HeadFits held walk.run walk.at walk.head

-- the head is kept, unless the place is at the end
abbrev pub HeadIsRead : ℕ → ℕ → Option Cell → Type 0
HeadIsRead at len None = at ≡ len
HeadIsRead at len (Some cell) = ⊤

-- a walk whose next cell is read, if there is one
abbrev pub IsReady : Walk → Type 0
IsReady walk = HeadIsRead walk.at walk.run.len walk.head

-- how many heads are kept: one or none
abbrev pub heads_of : Option Cell → ℕ
heads_of None = 0
heads_of (Some cell) = 1

-- how many cells of its run a walk has still to read
abbrev pub unread : Walk → ℕ
unread walk = walk.run.len - walk.at - heads_of walk.head

-- how many cells of its run a walk has still to pass
abbrev pub ahead : Walk → ℕ
ahead walk = walk.run.len - walk.at

-- what a walk has still to read after a call: nothing is asked of a refused one
abbrev pub unread_begun : Result Walk ReadFault → ℕ
unread_begun (Ok walk) = unread walk
unread_begun (Err fault) = 0

abbrev pub unread_after : {T : Type 0} → Walk → Result T ReadFault → ℕ
unread_after walk (Ok answer) = unread walk
unread_after walk (Err fault) = 0

-- a call that reads spends this: each tick turns to at most one block
abbrev pub Turns : Spent → Spent → ℕ → ℕ → Type 0
Turns old new before after = Costs old new before after (after - before) (after - before)

-- the blocks that a walk has still to turn to
abbrev pub walk_blocks : State → Walk → ℕ
walk_blocks object walk = blocks_from object walk.reader walk.run walk.at

-- a walk before the first cell of a run, which is not read
abbrev pub unbegun : Run → Reader → Walk
unbegun run reader = record { run = run; reader = reader; at = 0; head = None }

-- a walk went on: the object turned to no more blocks than lie between, and no buffer changed but the walk's
pub record ReadsOn (old new : State) (walk now : Walk) : Type 0 where
  pub blocks : new.spent.turned + walk_blocks new now ≤ old.spent.turned + walk_blocks old walk
  pub others_stay : (other : Buffer) → other ≢ By walk.reader walk.run.level →
      new.spent.lasts other ≡ old.spent.lasts other

-- the cells of its run that a walk has still to pass
abbrev pub rest : Held → Walk → List LawCell
rest held walk = drop walk.at (run_cells held walk.run)

-- what the first item is among the cells of a key at the front of a list
abbrev pub passed_seen : List ℕ → List LawCell → Seen Stamped
passed_seen key [] = seen.Nothing
passed_seen key (laws.Entry k item young link ∷ cells) = cond (is_eq (key_cmp key k)) (flagged young item) seen.Nothing
passed_seen key (laws.Look k link ∷ cells) = cond (is_eq (key_cmp key k)) (passed_seen key cells) seen.Nothing

-- a walk before the first cell of a run, with that cell read
pub record Begins (held : Held) (run : Run) (reader : Reader) (walk : Walk) : Type 0 where
  pub run_is : walk.run ≡ run
  pub reader_is : walk.reader ≡ reader
  pub at_is : walk.at ≡ 0
  pub fits : WalkFits held walk
  pub ready : IsReady walk

-- a walk with its next cell read
pub record Fetches (held : Held) (old new : Walk) : Type 0 where
  pub run_is : new.run ≡ old.run
  pub reader_is : new.reader ≡ old.reader
  pub at_is : new.at ≡ old.at
  pub fits : WalkFits held new
  pub ready : IsReady new

-- a walk that passed the cells of a key at its front: where it stands then, and what the first item among them is. What is
-- left of a told run is what was left of it without these cells
pub record Passes (held : Held) (key : List ℕ) (old new : Walk) (found : Found) : Type 0 where
  pub run_is : new.run ≡ old.run
  pub reader_is : new.reader ≡ old.reader
  pub goes : old.at ≤ new.at
  pub moves : IsTrue (has_key key old.head) → old.at < new.at
  pub fits : WalkFits held new
  pub ready : IsReady new
  pub rest_is : IsRunTold held old.run → rest held new ≡ pass_key key_cmp key (rest held old)
  pub found_is : IsRunTold held old.run → as_seen found ≡ passed_seen key (rest held old)
