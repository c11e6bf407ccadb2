-- What a test of a file answers, in plain terms.
use Rattle.std.proofs.Common.{inl, inr, ℕ, Result, Ok, Err}
use Rattle.cola_check.proofs.Common.{IfSome_then, Verdict, CheckFault, IsReadBy, Checks}
use Rattle.cola_layout.specs.Header.{Fields}
use Rattle.cola_check.specs.declared.fault.CheckFault.TheVariants.{Device}
use Rattle.cola_check.specs.CheckLaws.{CostsOf, CheckSays}
use Rattle.cola_device.specs.declared.device.Device as device

module _ {D : Type 0} (d : device.Ghosts D) (before now : D) (from to : ℕ) where
  costs : (header : Fields) → IsReadBy d before now from to header → CostsOf d before now from to header
  costs header reading = (reading.steps_stay, (reading.few_ticks, reading.spends))

  pub says : (result : Result Verdict CheckFault) → Checks d before now from to result → CheckSays d before now from to result
  says (Ok verdict) h = (h.header, (IfSome_then (d.bytes before) h.is (λ bytes v. (v.was, v.verdict_is)), (h.no_fault, costs h.header h.reading)))
  says (Err Device) (inl f) = inl (f.failed, f.no_ticks)
  says (Err Device) (inr f) = inr (f.header, (f.was, (f.cause, costs f.header f.reading)))
  says (Err _) h = (h.seen, h.no_ticks)
