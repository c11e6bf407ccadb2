-- What a step does to a chain.
use Rattle.std.specs.Prelude.{◌≡◌, ℕ, ◌+◌, ◌*◌, ◌/◌, ◌≤◌, List, length, Option, Result, MatchResult, OnOk, OnErr, IfErr}
use Rattle.cola_laws.specs.Plain.{next_clock}
use Rattle.cola_cell.specs.declared.cell.Item.{Item}
use Rattle.cola_cell.specs.declared.fault.StepFault.{StepFault}
use Rattle.cola_cell.specs.Held.{Stamped}
use Rattle.cola_device.specs.declared.device.Device as device
use Rattle.cola_level.specs.Work.{IsCalm, IsDevice}
use Rattle.cola_mutation.specs.Work as mutation
use Rattle.cola_mutation.specs.Work.{WorkState, Costs}
use Rattle.cola_mutation.specs.Standing.{KeepsProgress, KeepsVisible, new_cell, HasRefusal, AllTake}
use Rattle.cola_mutation.specs.Steps.{IsMapOf, ChangesMap, KeepsMap, step_ticks}
use Rattle.cola_chain.specs.Account.{IsPaid, CountsStep}
use Rattle.cola_chain.specs.Contents.{Contents, held_of, spent_of, state_of}

-- the state of a chain, and the ticks so far
abbrev pub work_of : {D : Type 0} → device.Ghosts D → Contents D → ℕ → WorkState
work_of d chain ticks = mutation.state_of (state_of d.bytes d.counts chain) ticks

-- a step by which a key gets an item, with the ticks before it and after
pub record Steps {D A : Type 0} (d : device.Ghosts D) (old new : Contents D) (before now : ℕ)
    (key : List ℕ) (item : Item) (result : Result A StepFault) : Type 0 where
  pub fixed : (held_of d.bytes new).fixed ≡ (held_of d.bytes old).fixed
  pub many : length new.levels ≡ length old.levels
  pub clock : MatchResult result
      (λ _. new.clock ≡ next_clock (length old.levels) old.clock) (λ _. new.clock ≡ old.clock)
  pub progress : OnErr result (KeepsProgress old.clock old.levels new.levels)
  pub visible : OnErr result
      (KeepsVisible old.clock (length old.levels) (held_of d.bytes old) (held_of d.bytes new))
  -- what it means
  pub changes : OnOk result
      (ChangesMap (held_of d.bytes old) (held_of d.bytes new) old.clock new.clock key item old.levels new.levels)
  pub takes : OnOk result
      (AllTake old.clock (new_cell key item) (held_of d.bytes old) (held_of d.bytes new) old.levels new.levels)
  pub keeps : OnErr result
      (KeepsMap (held_of d.bytes old) (held_of d.bytes new) old.clock old.levels new.levels)
  -- why it was refused
  pub only : (most : ℕ) (m : List ℕ → Option Stamped) →
      IsMapOf (held_of d.bytes old) most old.clock old.levels m → IfErr result IsDevice
  pub cause : IfErr result
      (HasRefusal old.clock key item (work_of d old before) (work_of d new now) old.levels new.levels)
  pub calm : IsCalm (spent_of d.counts old).faults (spent_of d.counts new).faults result
  -- what it cost
  pub costs : Costs (work_of d old before) (work_of d new now)
      (step_ticks (length old.levels)) (length old.levels / 2)
  pub transfers : (spent_of d.counts new).turned + (spent_of d.counts new).written
      ≤ (spent_of d.counts old).turned + (spent_of d.counts old).written + (9 + 60 * (length old.levels / 2))
  -- how it is counted
  pub counts : CountsStep d.counts old new result
  pub paid : OnOk result (IsPaid d.bytes d.counts old → IsPaid d.bytes d.counts new)
