-- What a mirror that settled says of its sides.
use Rattle.std.specs.Prelude.{◌≡◌, ℕ, true, List, Option}
use Rattle.cola_device.specs.declared.device.Device as device
use Rattle.cola_device.specs.Settling.{IsSettled}
use Rattle.cola_mirror.specs.Sides.{has_first, has_second}
use Rattle.cola_mirror.specs.Mirror.{Pair}

-- a mirror settled, and behind that each side in use had settled, with these bytes
pub record SidesSettled {D E : Type 0} (d : device.Ghosts D) (e : device.Ghosts E) (bytes : Option (List ℕ)) : Type 0 where
  pub after : Pair D E
  pub first : has_first after.sides ≡ true → IsSettled d after.first × (d.bytes after.first ≡ bytes)
  pub second : has_second after.sides ≡ true → IsSettled e after.second × (e.bytes after.second ≡ bytes)
