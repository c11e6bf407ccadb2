-- What a test of bytes that are only read answers.
use Rattle.std.proofs.Common.{◌≡◌, inl, inr, ℕ, List, Ok, Err, arith}
use Rattle.cola_outside.specs.Faults.{Rose}
use Rattle.cola_verdict.specs.declared.verdict.Verdict.{Verdict}
use Rattle.cola_check.specs.declared.fault.CheckFault.{CheckFault}
use Rattle.cola_check.specs.declared.fault.CheckFault.TheVariants as fault
use Rattle.cola_check.specs.Check as tested
use Rattle.cola_tools.specs.Shown.{Showing, unread}
use Rattle.cola_tools.specs.contracts.shown.ShownDevice.TheImpl.{ghosts}
use Rattle.cola_tools.specs.Checking.{Checks, refusal}

no-rise : (n : ℕ) → n ≡ 0 → Rose 0 n → ⊥
no-rise n none rose = omega (arith, rose, none)

module _ (bytes : List ℕ) (now : Showing) (from to : ℕ) (none : now.writes ≡ 0) where
  pub refused : (why : CheckFault) → tested.Checks ghosts (unread bytes) now from to (Err why) → Checks bytes from to (Err (refusal why))
  refused fault.NotStore says = (says.seen.why_is, says.no_ticks)
  refused fault.NotClosed says = (says.seen.why_is, says.no_ticks)
  refused fault.Small says = (says.seen.why_is, says.no_ticks)
  refused fault.OutOfMemory says = (says.seen.why_is, says.no_ticks)
  refused fault.Device (inl failed) = absurd (no-rise now.writes none failed.failed.cause)
  refused fault.Device (inr failed) = absurd (no-rise now.writes none failed.cause)

  pub judged : (verdict : Verdict) → tested.Checks ghosts (unread bytes) now from to (Ok verdict) → Checks bytes from to (Ok verdict)
  judged verdict says = record {
    header = says.header;
    judged = says.is;
    steps_stay = says.reading.steps_stay;
    few_ticks = says.reading.few_ticks;
  }
