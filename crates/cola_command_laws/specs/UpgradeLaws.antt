-- How an upgrade ends, said once more in plain terms: by the status.
use Rattle.std.specs.Prelude.{◌≡◌, ◌⊎◌, ℕ, Ok, Err}
use Rattle.cola_device.specs.declared.device.Device as device
use Rattle.cola_wide.specs.declared.fault.UpgradeFault.{UpgradeFault}
use Rattle.cola_wide.specs.declared.fault.UpgradeFault.TheVariants as upgrade
use Rattle.cola_wide.specs.Upgrade.{Upgrades}

module _ {D : Type 0} (d : device.Ghosts D) (device device' second second' : D) where
  -- the upgrade was refused for this reason
  abbrev pub Refused : UpgradeFault → Type 0
  Refused fault = Upgrades d d device device' second second' (Err fault)

  -- how an upgrade ends
  pub data UpgradeAnswers (status : ℕ) : Type 0 where
    Upgraded : status ≡ 0 → Upgrades d d device device' second second' (Ok tt) → UpgradeAnswers status
    NoMemory : status ≡ 1 → Refused upgrade.OutOfMemory → UpgradeAnswers status
    DeviceStops : status ≡ 5 → Refused upgrade.Device → UpgradeAnswers status
    NoStore : status ≡ 6 → Refused upgrade.NotStore ⊎ Refused upgrade.Small → UpgradeAnswers status
    InUse : status ≡ 7 → Refused upgrade.NotClosed → UpgradeAnswers status
    NotEmpty : status ≡ 8 → Refused upgrade.NotEmpty → UpgradeAnswers status
    Damaged : status ≡ 10 → (cell : ℕ) → Refused (upgrade.BadCell cell) → UpgradeAnswers status
    AlreadyWide : status ≡ 12 → Refused upgrade.Already → UpgradeAnswers status
