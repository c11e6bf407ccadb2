-- How a store is closed: what its file has then, and what a refusal keeps.
use Rattle.std.specs.Prelude.{◌≡◌, ◌≢◌, ◌⊎◌, ℕ, ◌+◌, ◌≤◌, ◌<◌, List, length, IfSome}
use Rattle.cola_outside.specs.Faults.{Rose}
use Rattle.cola_outside.specs.Told.{Both}
use Rattle.cola_cell.specs.Held.{Held}
use Rattle.cola_cell.specs.Places.{IsPlace}
use Rattle.cola_device.specs.declared.device.Device as device
use Rattle.cola_layout.specs.declared.header.Header.{Header}
use Rattle.cola_layout.specs.Fields.{fields_of}
use Rattle.cola_opening.specs.Counted.{Spends}
use Rattle.cola_opening.specs.Judged.{HasHeader, file_size}
use Rattle.cola_spec.specs.Map.{Map}
use Rattle.cola_layout.specs.Cells.{file_spots}
use Rattle.cola_image.specs.Standing.{HeaderStandsFor}
use Rattle.cola_run.specs.Store.{Store, held_of, device_of}
use Rattle.cola_run.specs.Saving.{SameReads, IsFrontLast, SameBehind, SettlesTwice}
use Rattle.cola_store.specs.Runs.{StoreStandsFor}

-- the file has each cell of the store that it reads: all but those behind a shadow in its slot
abbrev pub HasCells : Header → Held → List ℕ → Type 0
HasCells header held bytes = (level slot index : ℕ) → IsPlace (header.geometry.bottom + 1) level slot index →
    (slot ≢ (held.shadows level).slot) ⊎ (index < (held.shadows level).len) →
    file_spots header.geometry.format bytes level slot index ≡ held.spots level slot index

-- the file of a store that was closed: it has the header and the cells, and stands for the map that these stood for
pub record IsFileOf (header : Header) (held : Held) (bytes : List ℕ) : Type 0 where
  pub has : HasHeader (fields_of header) bytes
  pub cells : HasCells header held bytes
  pub stands : (m : Map) → StoreStandsFor header held m → HeaderStandsFor (fields_of header) bytes m

-- how many writes an attempt to close makes at most by a header: two, and one for each level
abbrev pub closing_writes : Header → ℕ
closing_writes header = header.geometry.bottom + 3

-- the device of a store, where it tells its bytes, has all cells of the store
abbrev pub HasWholeFile : {D : Type 0} → device.Ghosts D → Store D → Type 0
HasWholeFile d store = IfSome (d.bytes (device_of store))
    (λ bytes. file_size store.geometry.format store.geometry.bottom ≤ length bytes)

module _ {D : Type 0} (d : device.Ghosts D) (header : Header) (before : Store D) where
  -- the store was closed: its file is that of its header and cells, bytes behind it stay, and the device settled before the
  -- front was written and at the end
  pub record IsClosed (now : D) : Type 0 where
    pub file : IfSome (d.bytes now) (IsFileOf header (held_of d.bytes before))
    pub behind : Both (d.bytes (device_of before)) (d.bytes now) (SameBehind header.geometry)
    pub settles : SettlesTwice d header.geometry (device_of before) now
    pub spends : Spends (d.counts (device_of before)) (d.counts now) 0 (closing_writes header) 2
    pub no_fault : (d.counts now).faults ≡ (d.counts (device_of before)).faults

  -- the device failed, and all that is owed to the file still is: the cells that are read, and the header; the first two
  -- blocks of the file are as before, or the device had settled with every other cell before the first of them was written,
  -- and block 0 is as before or every cell behind it is in the file
  pub record StillOwes (now : Store D) (kept_header : Header) : Type 0 where
    pub cause : Rose (d.counts (device_of before)).faults (d.counts (device_of now)).faults
    pub header_is : kept_header ≡ header
    pub reads : SameReads (held_of d.bytes before) (held_of d.bytes now)
    pub geometry : now.geometry ≡ before.geometry
    pub order : IsFrontLast d header.geometry (held_of d.bytes now).spots
        (device_of before) (device_of now)
    pub behind : Both (d.bytes (device_of before)) (d.bytes (device_of now))
        (SameBehind header.geometry)
    pub spends : Spends (d.counts (device_of before)) (d.counts (device_of now))
        0 (closing_writes header) 2
    pub stands : (m : Map) → StoreStandsFor header (held_of d.bytes before) m →
        StoreStandsFor header (held_of d.bytes now) m
