-- What the merge of a level does in one mutation, before and after its shadow is finished.
use Rattle.std.specs.Prelude.{◌+◌, ◌≤◌, ⊤, Result, Ok, Err, OnOk, IfErr}
use Rattle.cola_cell.specs.declared.cell.Reader.{Reader}
use Rattle.cola_cell.specs.declared.fault.StepFault.{StepFault}
use Rattle.cola_cell.specs.Held.{IsTelling}
use Rattle.cola_cell.specs.Places.{slot_size}
use Rattle.cola_cell.specs.Spent.{Buffer}
use Rattle.cola_cell.specs.State.{State}
use Rattle.cola_cell.specs.ToldCells.{IsShadowTold}
use Rattle.cola_merge.specs.declared.aims.Aim.{Aim}
use Rattle.cola_merge.specs.declared.aims.Progress.{Progress}
use Rattle.cola_merge.specs.declared.aims.Progress.TheVariants.{Done, More}
use Rattle.cola_merge.specs.declared.merging.Merger.{Merger}
use Rattle.cola_merge.specs.Heads.{head_of, consumed, IsReady, IsUsedUp}
use Rattle.cola_merge.specs.States.{MergeState, len_of, TurnsWithin, WritesWithin, StepCause, Spends, Grows, IsBeside, KeepsBlocks, IsSavedByBlocks}
use Rattle.cola_merge.specs.Advance.{IsGoing, BuildsBy}
use Rattle.cola_level.specs.Work.{Takes, IsWithinSlot, GoesOn, IsSavedAtEnd, IsWholeAtEnd, IsCalm, IsDevice, SpendsFor, WritesDown}

-- the object of a state
abbrev pub object_of : MergeState → State
object_of s = record { held = s.held; spent = s.spent }

-- what became of a merge and of the object that it works on, whatever the answer
pub record Moves {A : Type 0} (aim : Aim) (s t : MergeState) (result : Result A StepFault) : Type 0 where
  pub ready : IsReady t.held aim t.merger
  pub grows : Grows s.held t.held aim.level
  pub lasts : (buffer : Buffer) → IsBeside aim buffer →
      KeepsBlocks aim.level aim.slot buffer s.spent.lasts t.spent.lasts
  pub takes : Takes aim s.merger t.merger result
  pub rises : (reader : Reader) → (head_of s.merger reader).at ≤ (head_of t.merger reader).at
  pub emits : len_of aim t + consumed s.merger ≤ len_of aim s + consumed t.merger
  pub samples : len_of aim s + t.merger.sample.at ≤ len_of aim t + s.merger.sample.at
  pub builds : BuildsBy s.held t.held aim s.merger t.merger
  pub told : IsTelling s.held → IsShadowTold s.held aim.level → IsShadowTold t.held aim.level
  pub cut : IsGoing s.held aim s.merger → GoesOn s.held t.held aim s.merger t.merger result
  pub whole : IsGoing s.held aim s.merger → OnOk result (IsWholeAtEnd s.held t.held aim t.merger)
  pub cause : IfErr result (StepCause aim s.spent.faults t)
  pub calm : IsCalm s.spent.faults t.spent.faults result
  pub only : IsGoing s.held aim s.merger → IsWithinSlot s.held aim → IfErr result IsDevice
  pub turned : OnOk result (TurnsWithin aim s t)

-- done exactly where each source cell is consumed
abbrev pub TellsEnd : Aim → Merger → Result Progress StepFault → Type 0
TellsEnd aim n (Ok Done) = IsUsedUp aim n
TellsEnd aim n (Ok More) = IsUsedUp aim n → ⊥
TellsEnd aim n (Err fault) = ⊤

-- the steps of one mutation were asked for
pub record Stepped (aim : Aim) (s t : MergeState) (result : Result Progress StepFault) : Type 0 where
  pub moves : Moves aim s t result
  pub ends : TellsEnd aim t.merger result
  pub spends : Spends s.spent t.spent s.steps t.steps
  pub ticks : t.steps ≤ s.steps + 59
  pub saved : OnOk result (IsSavedByBlocks s.held t.held aim.level)
  pub written : OnOk result (WritesWithin aim s t)

-- and a finish, where the merge is done
pub record Built {A : Type 0} (aim : Aim) (s t : MergeState) (result : Result A StepFault) : Type 0 where
  pub moves : Moves aim s t result
  pub spends : SpendsFor s.spent t.spent s.steps t.steps
  pub saved : OnOk result (IsSavedAtEnd t.held aim t.merger)
  pub written : OnOk result (len_of aim t ≤ slot_size aim.level → WritesDown (object_of s) (object_of t) aim t.merger)
