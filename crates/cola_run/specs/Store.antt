-- A run store: what contracts see of it, what it holds, spends and keeps.
use Rattle.std.specs.Prelude.{◌≡◌, ℕ, zero, suc, ◌+◌, ◌-◌, ◌*◌, ◌/◌, ◌%◌, ◌^◌, nat_lt, if◌then◌else◌, List, length, take, drop, replicate, Option, None, Some, option_map}
use Rattle.cola_cell.specs.declared.cell.Reader.{Reader}
use Rattle.cola_cell.specs.declared.cell.Reader.TheVariants.{Own, Incoming, Sample}
use Rattle.cola_cell.specs.declared.sink.Shadow.{Shadow}
use Rattle.cola_cell.specs.Flat.{shadow_at}
use Rattle.cola_cell.specs.Held.{Held}
use Rattle.cola_cell.specs.Places.{Block}
use Rattle.cola_cell.specs.Shadows.{emptied}
use Rattle.cola_cell.specs.State.{State}
use Rattle.cola_cell.specs.Spent.{Buffer, Search, By, Spent}
use Rattle.cola_cache.specs.Blocks.{Blocks, last_in, new_blocks}
use Rattle.cola_device.specs.declared.counts.Counts.{Counts}
use Rattle.cola_front.specs.Front.{FrontCells, new_front}
use Rattle.cola_layout.specs.declared.geometry.Geometry.{Geometry}
use Rattle.cola_run.specs.Cells.{Cells, Lower, AreCells, cells_by, block_bytes, file_bytes, file_blocks, device_levels, tails_bytes, spots_of}

-- the blocks of the device with their buffers; the geometry; the front; the shadow of each level; the tails; and the ticks made
pub record Store (D : Type 0) : Type 0 where
  pub buffers : Blocks D
  pub geometry : Geometry
  pub front : FrontCells
  pub shadows : List Shadow
  pub tails : List ℕ
  pub ticked : ℕ

-- what lies below the front: what the device of these buffers tells, the shadows and the tails
abbrev pub lower_of : {D : Type 0} → (D → Option (List ℕ)) → Blocks D → List Shadow → List ℕ → Lower
lower_of bytes buffers shadows tails = record { told = bytes buffers.cache.device; shadows = shadows; tails = tails }

-- the device of a store
abbrev pub device_of : {D : Type 0} → Store D → D
device_of store = store.buffers.cache.device

-- the cells of a store whose device tells these bytes
abbrev pub cells_of : {D : Type 0} → Option (List ℕ) → Store D → Cells
cells_of told store =
    cells_by store.geometry store.front (record { told = told; shadows = store.shadows; tails = store.tails })

-- what it holds: its levels, in blocks of its geometry, and what its device had counted when it was made
abbrev pub held_of : {D : Type 0} → (D → Option (List ℕ)) → Store D → Held
held_of bytes store =
    record {
      fixed = record {
        levels = store.geometry.bottom + 1;
        doublings = store.geometry.block_exp - 3;
        format = store.geometry.format;
        made = record { reads = store.buffers.made.reads; faults = store.buffers.made.faults };
      };
      spots = spots_of (cells_of (bytes store.buffers.cache.device) store);
      shadows = shadow_at store.shadows;
    }

-- which of three buffers a reader has
abbrev pub reader_number : Reader → ℕ
reader_number Own = 0
reader_number Incoming = 1
reader_number Sample = 2

-- the buffer of a reader at a level on the device. Buffer 0 is that of searches
abbrev pub buffer_number : Geometry → Reader → ℕ → ℕ
buffer_number geometry reader level = 1 + 3 * (level + 2 - geometry.block_exp) + reader_number reader

-- the block of a slot among those of so many levels from one on, of which the slots of the first are one block: by its number in the file
abbrev pub slot_block : ℕ → ℕ → ℕ → Block
slot_block first zero number = record { level = first; slot = number - 2; number = 0 }
slot_block first (suc more) number =
    if nat_lt number (2 ^ (suc more + 1)) then slot_block first more number
    else record { level = first + suc more; slot = number / 2 ^ (suc more) - 2; number = number % 2 ^ (suc more) }

-- the block of a slot that has this number in the file: none for the two of the front
abbrev pub as_block : Geometry → ℕ → Option Block
as_block geometry number =
    if nat_lt number 2 then None else Some (slot_block (geometry.block_exp - 2) (geometry.bottom + 2 - geometry.block_exp) number)

-- what a buffer holds as a block of a slot
abbrev pub last_block : Geometry → Option ℕ → Option Block
last_block geometry None = None
last_block geometry (Some number) = as_block geometry number

-- the block that was read last: by searches; and by a reader at a level, where that is on the device
abbrev pub last_of : Geometry → List (Option ℕ) → Buffer → Option Block
last_of geometry lasts Search = last_block geometry (last_in lasts 0)
last_of geometry lasts (By reader level) =
    if nat_lt (level + 2) geometry.block_exp then None else last_block geometry (last_in lasts (buffer_number geometry reader level))

-- what it spends: the device's counts and its own ticks
abbrev pub spent_of : {D : Type 0} → (D → Counts) → Store D → Spent
spent_of counts store =
    record {
      faults = (counts store.buffers.cache.device).faults;
      ticked = store.ticked;
      turned = (counts store.buffers.cache.device).reads;
      written = (counts store.buffers.cache.device).writes;
      lasts = last_of store.geometry store.buffers.lasts;
    }

-- its state
abbrev pub state_of : {D : Type 0} → (D → Option (List ℕ)) → (D → Counts) → Store D → State
state_of bytes counts store = record { held = held_of bytes store; spent = spent_of counts store }

-- what a device has beside the levels on it: its size, the two blocks of the front, and the bytes behind the store's file
pub record Beside : Type 0 where
  pub size : ℕ
  pub front : List ℕ
  pub behind : List ℕ

-- what these bytes have beside the levels on the device
abbrev pub beside : Geometry → List ℕ → Beside
beside geometry bytes =
    record {
      size = length bytes;
      front = take (2 * block_bytes geometry) bytes;
      behind = drop (file_bytes geometry) bytes;
    }

-- what a store has beside its cells and counts: its geometry, how many blocks its cache may keep, what its device keeps, what that has beside the levels on it,
-- where it tells its bytes, and how many calls it counted that neither read nor write
pub record Kept (K : Type 0) : Type 0 where
  pub geometry : Geometry
  pub cache : ℕ
  pub device : K
  pub beside : Option Beside
  pub others : ℕ

-- what no call on the cells of a store changes
abbrev pub kept_of : {D K : Type 0} → (D → Option (List ℕ)) → (D → Counts) → (D → K) → Store D → Kept K
kept_of bytes counts kept store =
    record {
      geometry = store.geometry;
      cache = store.buffers.cache.blocks;
      device = kept store.buffers.cache.device;
      beside = option_map (beside store.geometry) (bytes store.buffers.cache.device);
      others = (counts store.buffers.cache.device).others;
    }

-- what a store may be: its cells, and the blocks of its file with a buffer for searches and three for each level on the device
pub record IsStore {D : Type 0} (told : Option (List ℕ)) (store : Store D) : Type 0 where
  pub cells : AreCells (cells_of told store)
  pub size : store.buffers.cache.size ≡ block_bytes store.geometry
  pub many : store.buffers.many ≡ file_blocks store.geometry
  pub buffers_many : length store.buffers.lasts ≡ 1 + 3 * device_levels store.geometry

-- the shadows of a new store: each is empty and stands in slot 1
abbrev pub new_shadows : Geometry → List Shadow
new_shadows geometry = replicate (geometry.bottom + 1) (emptied 1)

-- the tails of a new store
abbrev pub new_tails : Geometry → List ℕ
new_tails geometry = replicate (tails_bytes geometry) 0

-- a new store: no cell stands in memory, each shadow is empty and stands in slot 1, and no tick was made
abbrev pub new_store : {D : Type 0} → D → Counts → Geometry → ℕ → Store D
new_store device counts geometry cache =
    record {
      buffers = new_blocks device counts cache (block_bytes geometry) (file_blocks geometry) (1 + 3 * device_levels geometry);
      geometry = geometry;
      front = new_front geometry.block_exp geometry.format;
      shadows = replicate (geometry.bottom + 1) (emptied 1);
      tails = replicate (tails_bytes geometry) 0;
      ticked = 0;
    }
