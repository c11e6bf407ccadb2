-- What the calls of a merger leave, by the object, the merger and the ticks before and after them.
use Rattle.std.specs.Prelude.{ℕ, Bool, Option, Result}
use Rattle.cola_cell.specs.declared.cell.Cell.{Cell}
use Rattle.cola_cell.specs.declared.fault.ReadFault.{ReadFault}
use Rattle.cola_cell.specs.declared.fault.PushFault.{PushFault}
use Rattle.cola_cell.specs.declared.fault.StepFault.{StepFault}
use Rattle.cola_cell.specs.declared.packed.Pass.{Pass}
use Rattle.cola_cell.specs.declared.source.CellSource.{Ghosts}
use Rattle.cola_merge.specs.declared.aims.Aim.{Aim}
use Rattle.cola_merge.specs.declared.aims.Progress.{Progress}
use Rattle.cola_merge.specs.declared.merging.Merger.{Merger}
use Rattle.cola_merge.specs.declared.rules.Choice.{Choice}
use Rattle.cola_merge.specs.Fetched.{Head}
use Rattle.cola_merge.specs.Rules.{emitted_of}
use Rattle.cola_merge.specs.States.{Emission, Stepped, Taken, TakesQuota, state}
use Rattle.cola_merge.specs.Advance.{Advances}
use Rattle.cola_merge.specs.Pulls.{Next, Drawn, Pulls}

module _ {W : Type 0} (w : Ghosts W) (before now : W) where
  -- what becomes of a head's cell is added behind the shadow of this level, if it is passed on
  abbrev pub Adds : {A : Type 0} → ℕ → Option Pass → Head → ℕ → ℕ → Result A PushFault → Type 0
  Adds level pass head ticks ticks_now result =
      Emission (w.state before) (w.state now) level (emitted_of pass head.cell) ticks ticks_now result

module _ {W : Type 0} (w : Ghosts W) (before now : W) (aim : Aim) (old new : Merger) (ticks ticks_now : ℕ) where
  -- what a call of `advance` leaves
  abbrev pub AdvanceLeaves : ℕ → Result Progress StepFault → Type 0
  AdvanceLeaves quota result =
      Advances aim (state (w.state before) old ticks) (state (w.state now) new ticks_now) quota result

  -- what a call of `pull` leaves
  abbrev pub PullLeaves : Result (Option Cell) ReadFault → Type 0
  PullLeaves result = Pulls aim (state (w.state before) old ticks) (state (w.state now) new ticks_now) result

  -- what the reads of the heads leave, and what the rules ask for by them
  abbrev pub NextLeaves : Result (Option Choice) ReadFault → Type 0
  NextLeaves result = Next aim (state (w.state before) old ticks) (state (w.state now) new ticks_now) result

  -- what one step of the heads leaves
  abbrev pub StepLeaves : {A : Type 0} → Result A PushFault → Type 0
  StepLeaves result = Stepped aim (state (w.state before) old ticks) (state (w.state now) new ticks_now) result

  -- what one step leaves, with the reads of its heads, or their reads alone as no source cell is left
  abbrev pub TakeLeaves : Result Bool StepFault → Type 0
  TakeLeaves result = Taken aim (state (w.state before) old ticks) (state (w.state now) new ticks_now) result

  -- what the steps of a quota leave
  abbrev pub RunLeaves : ℕ → Result Progress StepFault → Type 0
  RunLeaves quota result =
      TakesQuota aim (state (w.state before) old ticks) (state (w.state now) new ticks_now) quota result

  -- what the reads and the steps up to a cell that is given leave
  abbrev pub DrawLeaves : Result (Option Cell) ReadFault → Type 0
  DrawLeaves result = Drawn aim (state (w.state before) old ticks) (state (w.state now) new ticks_now) result
