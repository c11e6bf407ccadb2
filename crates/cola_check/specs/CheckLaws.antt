-- What a test of a file answers, said once more in plain terms.
use Rattle.std.specs.Prelude.{◌≡◌, ◌⊎◌, ℕ, ◌+◌, ◌*◌, ◌^◌, ◌≤◌, Result, Ok, Err, IfSome}
use Rattle.cola_outside.specs.Faults.{Rose}
use Rattle.cola_device.specs.declared.device.Device as device
use Rattle.cola_layout.specs.Header.{Fields}
use Rattle.cola_opening.specs.Counted.{Spends}
use Rattle.cola_opening.specs.Judged.{IsSmall, IsNoStore, IsClosedWith, IsClosedFile, IsInUse, IsSeen, FailedReading}
use Rattle.cola_verdict.specs.declared.verdict.Verdict.{Verdict}
use Rattle.cola_verdict.specs.Tests.{tested_of}
use Rattle.cola_verdict.specs.Verdict.{IsVerdict}
use Rattle.cola_check.specs.declared.fault.CheckFault.{CheckFault}
use Rattle.cola_check.specs.declared.fault.CheckFault.TheVariants.{NotStore, NotClosed, Small, Device, OutOfMemory}

module _ {D : Type 0} (d : device.Ghosts D) (before now : D) (from to : ℕ) where
  -- the ticks of a file with this header, its reads and its other calls; it is not written
  abbrev pub CostsOf : Fields → Type 0
  CostsOf header = (from ≤ to) × ((to ≤ from + 5 * 2 ^ (header.bottom + 4))
      × Spends (d.counts before) (d.counts now) (1 + (header.bottom + 3) + 5 * 2 ^ (header.bottom + 4)) 0 1)

  -- by the answer
  abbrev pub CheckSays : Result Verdict CheckFault → Type 0
  CheckSays (Ok verdict) = (header : Fields) × (IfSome (d.bytes before) (λ bytes. IsClosedWith header bytes × IsVerdict (tested_of header bytes) verdict)
      × (((d.counts now).faults ≡ (d.counts before).faults) × CostsOf header))
  CheckSays (Err NotStore) = IsSeen d before IsNoStore 1 1 now × (to ≡ from)
  CheckSays (Err Small) = IsSeen d before IsSmall 1 1 now × (to ≡ from)
  CheckSays (Err NotClosed) = IsSeen d before IsInUse 1 1 now × (to ≡ from)
  CheckSays (Err OutOfMemory) = IsSeen d before IsClosedFile 1 1 now × (to ≡ from)
  CheckSays (Err Device) = (FailedReading d before now × (to ≡ from))
      ⊎ ((header : Fields) × (IfSome (d.bytes before) (IsClosedWith header) × (Rose (d.counts before).faults (d.counts now).faults × CostsOf header)))
