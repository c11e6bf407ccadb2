-- What the calls of a mutation leave, by the object, the levels and the ticks before and after them.
use Rattle.std.specs.Prelude.{ℕ, List, Result}
use Rattle.cola_cell.specs.declared.cell.Cell.{Cell}
use Rattle.cola_cell.specs.declared.cell.Item.{Item}
use Rattle.cola_cell.specs.declared.fault.StepFault.{StepFault}
use Rattle.cola_cell.specs.declared.source.CellSource.{Ghosts}
use Rattle.cola_cell.specs.Held.{Held}
use Rattle.cola_merge.specs.Heads.{fresh, IsReady}
use Rattle.cola_level.specs.declared.level.Level.{Level}
use Rattle.cola_level.specs.Marks.{marks_of, all_marks_of}
use Rattle.cola_mutation.specs.Work.{state_of, TakesTurn, TakeTurns, build_aim, Builds}
use Rattle.cola_mutation.specs.Ends.{Restarted}
use Rattle.cola_mutation.specs.Standing.{PreparesAll}
use Rattle.cola_mutation.specs.Steps.{Mutates}

-- the build of level 0 over the level `next`, at clock t and with this cell, may begin
abbrev pub MayBuild : Held → ℕ → Cell → (top next : Level) → Type 0
MayBuild held t c top next = IsReady held (build_aim t c top (marks_of next)) fresh

module _ {W : Type 0} (w : Ghosts W) (before now : W) (t : ℕ) where
  -- the end of a mutation at clock t restarts the shadows of `count` levels from level j on that flip
  abbrev pub EndLeaves : (j count : ℕ) → Type 0
  EndLeaves j count = Restarted t j count (w.state before).held (w.state now).held

module _ {W : Type 0} (w : Ghosts W) (before now : W) (ticks ticks_now t : ℕ) where
  -- what the turn of level i + 1 leaves, at clock t, under a visible run of `above` cells and over the levels `below`
  abbrev pub TurnLeaves : {A : Type 0} → (i above : ℕ) → (old new : Level) → List Level → Result A StepFault → Type 0
  TurnLeaves i above old new below result =
      TakesTurn t i above (state_of (w.state before) ticks) (state_of (w.state now) ticks_now)
      old new (all_marks_of below) result

  -- what the turns of all levels from level i + 1 on leave
  abbrev pub TurnsLeave : {A : Type 0} → (i above : ℕ) → (old new : List Level) → Result A StepFault → Type 0
  TurnsLeave i above old new result =
      TakeTurns t i above (state_of (w.state before) ticks) (state_of (w.state now) ticks_now) old new result

  -- what the build of level 0 with a cell leaves, over the level `next`
  abbrev pub TopBuildLeaves : {A : Type 0} → Cell → (old new next : Level) → Result A StepFault → Type 0
  TopBuildLeaves c old new next result =
      Builds t c (state_of (w.state before) ticks) (state_of (w.state now) ticks_now) old new (marks_of next) result

  -- what the builds of all shadows with a cell leave
  abbrev pub PrepareLeaves : {A : Type 0} → Cell → (old new : List Level) → Result A StepFault → Type 0
  PrepareLeaves c old new result =
      PreparesAll t c (state_of (w.state before) ticks) (state_of (w.state now) ticks_now) old new result

  -- what a call of `step` leaves, which gives a key an item
  abbrev pub MutationLeaves : List ℕ → Item → (old new : List Level) → Result ℕ StepFault → Type 0
  MutationLeaves key item old new result =
      Mutates t key item (state_of (w.state before) ticks) (state_of (w.state now) ticks_now) old new result
