-- What a step of the levels says of a chain.
use Rattle.std.proofs.Common.{◌≡◌, ℕ, List, Ok, Err}
use Rattle.cola_cell.specs.declared.cell.Item.{Item}
use Rattle.cola_cell.specs.declared.fault.StepFault.{StepFault}
use Rattle.cola_device.specs.declared.device.Device as device
use Rattle.cola_mutation.specs.Steps.{Mutates}
use Rattle.cola_chain.specs.Account.{IsPaid, CountsStep}
use Rattle.cola_chain.specs.Contents.{Contents}
use Rattle.cola_chain.specs.Steps.{work_of, Steps}

module _ {D : Type 0} (d : device.Ghosts D) (old new : Contents D) (before now : ℕ) (key : List ℕ) (item : Item) where
  pub step-accepted : Mutates old.clock key item (work_of d old before) (work_of d new now) old.levels new.levels (Ok new.clock) →
      CountsStep {D = D} {A = Unit {0}} d.counts old new (Ok tt) → (IsPaid d.bytes d.counts old → IsPaid d.bytes d.counts new) →
      Steps {D = D} {A = Unit {0}} d old new before now key item (Ok tt)
  step-accepted m counts paid = record {
    fixed = m.fixed;
    many = m.counted;
    clock = m.clock;
    progress = tt;
    visible = tt;
    changes = m.changes;
    takes = m.takes;
    keeps = tt;
    only = λ most map is. tt;
    cause = tt;
    calm = m.calm;
    costs = m.costs;
    transfers = m.transfers;
    counts = counts;
    paid = paid;
  }

  pub step-refused : (fault : StepFault) → Mutates old.clock key item (work_of d old before) (work_of d new now) old.levels new.levels (Err fault) →
      new.clock ≡ old.clock → CountsStep {D = D} {A = Unit {0}} d.counts old new (Err fault) → Steps {D = D} {A = Unit {0}} d old new before now key item (Err fault)
  step-refused fault m clock counts = record {
    fixed = m.fixed;
    many = m.counted;
    clock = clock;
    progress = m.progress;
    visible = m.visible;
    changes = tt;
    takes = tt;
    keeps = m.keeps;
    only = m.only;
    cause = m.cause;
    calm = m.calm;
    costs = m.costs;
    transfers = m.transfers;
    counts = counts;
    paid = tt;
  }
