-- A device that settled.
use Rattle.std.specs.Prelude.{◌≡◌, Ok}
use Rattle.cola_device.specs.declared.device.Device as device

-- a settle was carried out when the device had the bytes that it has, and no write was made since
pub record IsSettled {D : Type 0} (d : device.Ghosts D) (now : D) : Type 0 where
  pub before : D
  pub after : D
  pub settled : d.settles before (Ok tt) after
  pub bytes_stay : d.bytes now ≡ d.bytes before
  pub writes_stay : (d.counts now).writes ≡ (d.counts after).writes
