-- What the calls of a level leave, by the object and the ticks before and after them.
use Rattle.std.specs.Prelude.{ℕ, Result}
use Rattle.cola_cell.specs.declared.fault.StepFault.{StepFault}
use Rattle.cola_cell.specs.declared.source.CellSource.{Ghosts}
use Rattle.cola_merge.specs.declared.aims.Aim.{Aim}
use Rattle.cola_merge.specs.declared.aims.Progress.{Progress}
use Rattle.cola_merge.specs.declared.merging.Merger.{Merger}
use Rattle.cola_merge.specs.States.{state}
use Rattle.cola_level.specs.declared.level.Level.{Level}
use Rattle.cola_level.specs.Built.{Stepped, Built}
use Rattle.cola_level.specs.Works.{Works}

module _ {W : Type 0} (w : Ghosts W) (before now : W) (aim : Aim) where
  -- what the steps of one mutation leave of the object and the merger
  abbrev pub StepsLeave : (old new : Merger) → (ticks ticks_now : ℕ) → Result Progress StepFault → Type 0
  StepsLeave old new ticks ticks_now result =
      Stepped aim (state (w.state before) old ticks) (state (w.state now) new ticks_now) result

  -- what they leave with the finish of a merge that is done
  abbrev pub BuildLeaves : {A : Type 0} → (old new : Merger) → (ticks ticks_now : ℕ) → Result A StepFault → Type 0
  BuildLeaves old new ticks ticks_now result =
      Built aim (state (w.state before) old ticks) (state (w.state now) new ticks_now) result

  -- what a call of `work` leaves of the object and the level
  abbrev pub WorkLeaves : {A : Type 0} → (old new : Level) → (ticks ticks_now : ℕ) → Result A StepFault → Type 0
  WorkLeaves old new ticks ticks_now result =
      Works aim (w.state before) (w.state now) old new ticks ticks_now result
