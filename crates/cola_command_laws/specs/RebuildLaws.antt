-- How a rebuild ends, said once more in plain terms: by the status.
use Rattle.std.specs.Prelude.{◌≡◌, ◌⊎◌, ℕ, Ok, Err}
use Rattle.cola_device.specs.declared.device.Device as device
use Rattle.cola_mirror.specs.declared.fault.RebuildFault.{RebuildFault}
use Rattle.cola_mirror.specs.declared.fault.RebuildFault.TheVariants as rebuild
use Rattle.cola_mirror.specs.Rebuild.{Rebuilds}

module _ {D : Type 0} (d : device.Ghosts D) (device device' second second' : D) where
  -- the rebuild was refused for this reason
  abbrev pub Refused : RebuildFault → Type 0
  Refused fault = Rebuilds d d device device' second second' (Err fault)

  -- how a rebuild ends
  pub data RebuildAnswers (status : ℕ) : Type 0 where
    Rebuilt : status ≡ 0 → Rebuilds d d device device' second second' (Ok tt) → RebuildAnswers status
    DeviceStops : status ≡ 5 → Refused rebuild.Device → RebuildAnswers status
    NoStore : status ≡ 6 → Refused rebuild.NotStore ⊎ Refused rebuild.Small → RebuildAnswers status
    InUse : status ≡ 7 → Refused rebuild.NotClosed → RebuildAnswers status
    OtherSize : status ≡ 8 → (many : ℕ) → Refused (rebuild.Other many) → RebuildAnswers status
