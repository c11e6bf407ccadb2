-- An open store as its embedder sees it: the map that it holds, its sizes, what it counts, and what no call changes.
use Rattle.std.specs.Prelude.{◌≡◌, ℕ, ◌+◌, ◌*◌, ◌≤◌}
use Rattle.cola_device.specs.declared.counts.Counts.{Counts}
use Rattle.cola_device.specs.declared.device.Device as device
use Rattle.cola_layout.specs.declared.geometry.Geometry.{Geometry}
use Rattle.cola_run.specs.Cells.{block_cells, file_blocks}
use Rattle.cola_run.specs.Store as run
use Rattle.cola_spec.specs.Map.{Shape, Map}
use Rattle.cola_store.specs.Store as store
use Rattle.cola_store.specs.Store.{spent_of}
use Rattle.cola_transfers.specs.Credit.{parts}
use Rattle.cola_kv.specs.declared.kv.Kv.{Kv}

module _ {D : Type 0} {d : device.Ghosts D} where
  -- its keys, its format, its levels and its blocks
  abbrev pub geometry_of : Kv D d → Geometry
  geometry_of kv = store.geometry_of kv.store

  -- the maps that it may hold: how many keys, how long keys and values may be, and whether puts give stamps
  abbrev pub shape_of : Kv D d → Shape
  shape_of kv = store.map_shape kv.store

  -- how many levels it has: 4 to 23
  abbrev pub levels_of : Kv D d → ℕ
  levels_of kv = store.levels_of kv.store

  -- its device
  abbrev pub device_of : Kv D d → D
  device_of kv = run.device_of kv.store.chain.store

  -- how many values were put and keys taken out since its opening, up to the last value of 64 bits
  abbrev pub steps_of : Kv D d → ℕ
  steps_of kv = kv.store.chain.accepted

  -- what its device had counted at its opening
  abbrev pub opened_of : Kv D d → Counts
  opened_of kv = kv.store.account.opened

module _ {D : Type 0} (d : device.Ghosts D) where
  -- it holds this map
  abbrev pub Holds : Kv D d → Map → Type 0
  Holds kv m = store.Holds d.bytes kv.store m

  -- how many faults its device met
  abbrev pub faults_of : Kv D d → ℕ
  faults_of kv = store.faults_of d.counts kv.store

  -- how many blocks its device wrote
  abbrev pub writes_of : Kv D d → ℕ
  writes_of kv = (spent_of d.counts kv.store).written

  -- what no call changes: its sizes, its cache, what the device had counted at the opening, and what the device keeps; and its count of faults does not fall
  pub record Stays (old new : Kv D d) : Type 0 where
    pub geometry_is : geometry_of new ≡ geometry_of old
    pub cache_is : new.cache ≡ old.cache
    pub opened_is : opened_of new ≡ opened_of old
    pub kept : d.kept (device_of new) ≡ d.kept (device_of old)
    pub faults_stay : faults_of old ≤ faults_of new

  -- with so many steps since the opening, the writes since then: 4 cells for each step and level, in whole blocks, each block of the file once, and 1 more
  abbrev pub WritesWithin : ℕ → Kv D d → Type 0
  WritesWithin steps kv =
      writes_of kv ≤ (opened_of kv).writes
      + (parts (4 * (steps * levels_of kv)) (block_cells (geometry_of kv)) + file_blocks (geometry_of kv) + 1)
