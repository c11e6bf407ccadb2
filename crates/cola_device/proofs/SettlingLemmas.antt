-- Which devices are settled.
use Rattle.std.proofs.Common.{◌≡◌, Result, Ok, Err, ◌∙◌, refl}
use Rattle.std.specs.Prelude.{OnOk}
use Rattle.cola_device.specs.declared.device.Device as device
use Rattle.cola_device.specs.declared.device.DeviceFault.{DeviceFault}
use Rattle.cola_device.specs.Settling.{IsSettled}

module _ {D : Type 0} (d : device.Ghosts D) where
  -- after a settle that was carried out
  pub settled-by : (result : Result (Unit {0}) DeviceFault) (before now : D) → d.settles before result now → d.bytes now ≡ d.bytes before → OnOk result (IsSettled d now)
  settled-by (Ok value) before now settles bytes_stay = record { before = before; after = now; settled = settles; bytes_stay = bytes_stay; writes_stay = refl }
  settled-by (Err fault) before now settles bytes_stay = tt

  -- and as long as no byte changes and nothing is written
  pub settled-stays : (before now : D) → d.bytes now ≡ d.bytes before → (d.counts now).writes ≡ (d.counts before).writes → IsSettled d before → IsSettled d now
  settled-stays before now stay unwritten is =
      record {
        before = is.before;
        after = is.after;
        settled = is.settled;
        bytes_stay = stay ∙ is.bytes_stay;
        writes_stay = unwritten ∙ is.writes_stay;
      }
