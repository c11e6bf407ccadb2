-- Walks over a finished shadow and the runs beside it.
use Rattle.std.specs.Prelude.{◌≡◌, ℕ, ◌+◌, ◌≤◌, List, [], ◌∷◌, Result, Ok, Err}
use Rattle.cola_runs.specs.Cells.{IsRising}
use Rattle.cola_cell.specs.declared.cell.Run.{Run}
use Rattle.cola_cell.specs.declared.cell.Reader.TheVariants.{Own, Incoming, Sample}
use Rattle.cola_cell.specs.declared.fault.ReadFault.{ReadFault}
use Rattle.cola_cell.specs.Held.{Held}
use Rattle.cola_cell.specs.Order.{key_cmp}
use Rattle.cola_cell.specs.State.{State}
use Rattle.cola_cell.specs.ToldCells.{run_cells}
use Rattle.cola_check.specs.declared.carried.Beside.{Beside}
use Rattle.cola_check.specs.declared.carried.Step.{Step}
use Rattle.cola_check.specs.declared.walk.Walk.{Walk}
use Rattle.cola_check.specs.Reading.{IsRunTold}
use Rattle.cola_check.specs.Blocks.{run_blocks}
use Rattle.cola_check.specs.Walks.{WalkFits, IsReady, unread, walk_blocks, Passes}

-- a run of which each cell is told, and whose cells rise
pub record IsInOrder (held : Held) (run : Run) : Type 0 where
  pub told : IsRunTold held run
  pub rising : IsRising key_cmp (run_cells held run)

-- the three runs are so
pub record AreInOrder (held : Held) (above own shadow : Run) : Type 0 where
  pub above_in : IsInOrder held above
  pub own_in : IsInOrder held own
  pub shadow_in : IsInOrder held shadow

-- the walks as a list, and their runs
abbrev pub walks_of : Beside → List Walk
walks_of walks = walks.above ∷ walks.own ∷ walks.shadow ∷ []

abbrev pub runs_of : Beside → List Run
runs_of walks = walks.above.run ∷ walks.own.run ∷ walks.shadow.run ∷ []

-- each walk stands in a run of the object
pub record BesideFits (held : Held) (walks : Beside) : Type 0 where
  pub above : WalkFits held walks.above
  pub own : WalkFits held walks.own
  pub shadow : WalkFits held walks.shadow

-- each walk has read its next cell, if there is one
pub record AreReady (walks : Beside) : Type 0 where
  pub above : IsReady walks.above
  pub own : IsReady walks.own
  pub shadow : IsReady walks.shadow

-- how many cells the walks have still to read
abbrev pub all_unread : Beside → ℕ
all_unread walks = unread walks.above + unread walks.own + unread walks.shadow

-- the same after a call: nothing is asked of a refused one
abbrev pub unread_begun : Result Beside ReadFault → ℕ
unread_begun (Ok walks) = all_unread walks
unread_begun (Err fault) = 0

abbrev pub unread_stepped : Beside → Result Step ReadFault → ℕ
unread_stepped walks (Ok step) = all_unread walks
unread_stepped walks (Err fault) = 0

-- walks before the first cells of their runs
pub record BeginBeside (held : Held) (above own shadow : Run) (walks : Beside) : Type 0 where
  pub above_is : walks.above.run ≡ above
  pub own_is : walks.own.run ≡ own
  pub shadow_is : walks.shadow.run ≡ shadow
  pub above_at : walks.above.at ≡ 0
  pub own_at : walks.own.at ≡ 0
  pub shadow_at : walks.shadow.at ≡ 0
  pub fits : BesideFits held walks
  pub ready : AreReady walks

-- each walk passed the cells of a key
pub record StepsBeside (held : Held) (key : List ℕ) (old new : Beside) (step : Step) : Type 0 where
  pub above : Passes held key old.above new.above step.above
  pub own : Passes held key old.own new.own step.own
  pub shadow : Passes held key old.shadow new.shadow step.shadow

-- each walk reads by a reader of its own
pub record ReadApart (walks : Beside) : Type 0 where
  pub above : walks.above.reader ≡ Incoming
  pub own : walks.own.reader ≡ Own
  pub shadow : walks.shadow.reader ≡ Sample

-- the blocks that the walks have still to turn to
abbrev pub beside_blocks : State → Beside → ℕ
beside_blocks object walks = walk_blocks object walks.above + walk_blocks object walks.own + walk_blocks object walks.shadow

-- at most how many blocks the three runs fill
abbrev pub three_blocks : Held → Run → Run → Run → ℕ
three_blocks held above own shadow = run_blocks held above + run_blocks held own + run_blocks held shadow

-- the walks went on: the object turned to no more blocks than lie between
pub record BesideReadsOn (old new : State) (walks now : Beside) : Type 0 where
  pub blocks : new.spent.turned + beside_blocks new now ≤ old.spent.turned + beside_blocks old walks

-- the walks begun: they read apart, and with what they have still to turn to they take no more blocks than their runs fill
pub record BesideBegan (old new : State) (above own shadow : Run) (walks : Beside) : Type 0 where
  pub apart : ReadApart walks
  pub blocks : new.spent.turned + beside_blocks new walks ≤ old.spent.turned + three_blocks old.held above own shadow
