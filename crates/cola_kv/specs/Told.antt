-- What an open store tells of itself.
use Rattle.std.specs.Prelude.{ℕ, Option}
use Rattle.cola_device.specs.declared.device.Device as device
use Rattle.cola_layout.specs.Header.{version_of}
use Rattle.cola_opening.specs.Judged.{file_size}
use Rattle.cola_spec.specs.Bounds as bounds
use Rattle.cola_store.specs.declared.told.LevelInfo.{LevelInfo}
use Rattle.cola_store.specs.Told as store
use Rattle.cola_kv.specs.declared.kv.Kv.{Kv}
use Rattle.cola_kv.specs.declared.told.Info.{Info}
use Rattle.cola_kv.specs.Kv.{geometry_of, levels_of}

module _ {D : Type 0} {d : device.Ghosts D} where
  -- its sizes, those of its file; how many keys it has; and the most cell accesses of a call that puts or deletes, and of one that gets
  abbrev pub info_of : Kv D d → Info
  info_of kv = record {
    keys = (geometry_of kv).keys;
    count = kv.store.count;
    bytes = file_size (geometry_of kv).format (geometry_of kv).bottom;
    write_bound = bounds.put_bound (levels_of kv);
    get_bound = bounds.get_bound (levels_of kv);
    version = version_of (geometry_of kv).format;
    block = (geometry_of kv).block_exp;
    levels = levels_of kv;
  }

  -- the cells of the visible run and of the shadow of the level of this number, and their room; none where there is no such level
  abbrev pub level_of : Kv D d → ℕ → Option LevelInfo
  level_of kv number = store.level_of kv.store number
