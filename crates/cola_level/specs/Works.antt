-- What a call of a level's work leaves.
use Rattle.std.specs.Prelude.{◌≡◌, ℕ, suc, ◌+◌, ◌≤◌, true, List, Result, OnOk, IfErr}
use Rattle.cola_clock.specs.Clock.{works}
use Rattle.cola_clock.specs.Marks.{Marks, AreLevelMarks}
use Rattle.cola_cell.specs.declared.cell.Reader.{Reader}
use Rattle.cola_cell.specs.declared.fault.StepFault.{StepFault}
use Rattle.cola_cell.specs.Held.{IsTelling}
use Rattle.cola_cell.specs.Spent.{Buffer}
use Rattle.cola_cell.specs.State.{State}
use Rattle.cola_cell.specs.ToldCells.{IsShadowTold}
use Rattle.cola_merge.specs.declared.aims.Aim.{Aim}
use Rattle.cola_merge.specs.Advance.{IsGoing, BuildsBy}
use Rattle.cola_merge.specs.Heads.{head_of, consumed, IsReady}
use Rattle.cola_merge.specs.States.{state, StepCause, Grows, IsBeside, KeepsBlocks, TurnsWithin}
use Rattle.cola_transfers.specs.Chain.{IsLevelWorked}
use Rattle.cola_level.specs.declared.level.Level.{Level}
use Rattle.cola_level.specs.Aims.{aim_at}
use Rattle.cola_level.specs.Marks.{marks_of}
use Rattle.cola_level.specs.Standing.{CanAdvance, transfers_of}
use Rattle.cola_level.specs.Work.{taken, Takes, IsWithinSlot, GoesOn, IsSavedAtEnd, IsWholeAtEnd, IsCalm, IsDevice, SpendsFor, WritesDown, Advances}

-- what a call of `work` leaves: the object's state, the level and the ticks before it and after it, by its answer
pub record Works {A : Type 0} (aim : Aim) (old new : State) (l n : Level) (from to : ℕ) (result : Result A StepFault) : Type 0 where
  -- it may be called again, and nothing changed but the shadow's end and what stands behind it
  pub ready : IsReady new.held aim n.merger
  pub frames : Grows old.held new.held aim.level
  pub lasts : (buffer : Buffer) → IsBeside aim buffer →
      KeepsBlocks aim.level aim.slot buffer old.spent.lasts new.spent.lasts
  pub visible : n.visible ≡ l.visible
  pub length : n.shadow ≡ (new.held.shadows aim.level).len
  -- how far it went
  pub takes : Takes aim l.merger n.merger result
  pub rises : (reader : Reader) → (head_of l.merger reader).at ≤ (head_of n.merger reader).at
  pub emits : (new.held.shadows aim.level).len + consumed l.merger
      ≤ (old.held.shadows aim.level).len + consumed n.merger
  pub samples : (old.held.shadows aim.level).len + n.merger.sample.at
      ≤ (new.held.shadows aim.level).len + l.merger.sample.at
  pub builds : BuildsBy old.held new.held aim l.merger n.merger
  pub told : IsTelling old.held → IsShadowTold old.held aim.level → IsShadowTold new.held aim.level
  pub cut : IsGoing old.held aim l.merger → GoesOn old.held new.held aim l.merger n.merger result
  pub whole : IsGoing old.held aim l.merger → OnOk result (IsWholeAtEnd old.held new.held aim n.merger)
  pub saved : OnOk result (IsSavedAtEnd new.held aim n.merger)
  -- why it was refused
  pub cause : IfErr result (StepCause aim old.spent.faults (state new n.merger to))
  pub calm : IsCalm old.spent.faults new.spent.faults result
  pub only : IsGoing old.held aim l.merger → IsWithinSlot old.held aim → IfErr result IsDevice
  -- what it cost
  pub spends : SpendsFor old.spent new.spent from to
  pub turned : OnOk result (TurnsWithin aim (state old l.merger from) (state new n.merger to))
  pub written : OnOk result (WritesDown old new aim n.merger)
  -- and so, by the rules of a chain, where the aim is that of level i + 1 at clock t: its
  -- marks, its runs as the laws of levels have them, and its transfers
  pub marked : (t i above : ℕ) (below : List Marks) → aim ≡ aim_at t i l.visible above below →
      l.shadow ≡ (old.held.shadows (suc i)).len → works t (suc i) ≡ true →
      AreLevelMarks 0 t (suc i) above (marks_of l) below → AreLevelMarks (taken result) t (suc i) above (marks_of n) below
  pub advances : (t i above : ℕ) (below : List Marks) → aim ≡ aim_at t i l.visible above below →
      CanAdvance old.held aim t i above (marks_of l) below →
      Advances old.held new.held t i above (marks_of l) (marks_of n) below result
  pub worked : (t i above : ℕ) (below : List Marks) → aim ≡ aim_at t i l.visible above below →
      l.shadow ≡ (old.held.shadows (suc i)).len →
      OnOk result (IsLevelWorked old.held.fixed.doublings t i above (marks_of l) (marks_of n) below
      (transfers_of old.held old.spent) (transfers_of new.held new.spent))
