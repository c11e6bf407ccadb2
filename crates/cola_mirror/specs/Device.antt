-- A mirror as a device, and as it is made.
use Rattle.std.specs.Prelude.{false, ◌&&◌}
use Rattle.cola_device.specs.declared.device.Device as device
use Rattle.cola_mirror.specs.declared.sides.Sides.TheVariants.{Both}
use Rattle.cola_mirror.specs.Mirror.{Pair, Settings, settings, bytes_of, IsSettling}

module _ {D E : Type 0} (d : device.Ghosts D) (e : device.Ghosts E) where
  -- its meanings of the calls of a device
  abbrev pub mirror_device : device.Ghosts (Pair D E)
  mirror_device = record {
    bytes = bytes_of d e;
    tells = d.tells && e.tells;
    lends = false;
    counts = λ pair. pair.counts;
    Kept = Settings d.Kept e.Kept;
    kept = settings d e;
    settles = IsSettling d e;
  }

  -- over two devices, both in use, and no call counted yet
  abbrev pub new_pair : D → E → Pair D E
  new_pair first second = record {
    first = first;
    second = second;
    sides = Both;
    counts = record { faults = 0; reads = 0; writes = 0; others = 0 };
    first_faults = (d.counts first).faults;
    second_faults = (e.counts second).faults;
  }
