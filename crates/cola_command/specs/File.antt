-- Where the store of a session is, and when a session over a file is at a state of the session machine.
use Rattle.std.specs.Prelude.{◌≡◌, ℕ, min, List, length, drop, Option, Some, None, IfSome, IsSome, IsSomeAnd}
use Rattle.cola_cell.specs.declared.format.Format.{Format}
use Rattle.cola_device.specs.declared.device.Device as device
use Rattle.cola_layout.specs.declared.geometry.Geometry.{Geometry}
use Rattle.cola_layout.specs.Header.{Fields}
use Rattle.cola_opening.specs.Judged.{file_size, HasHeader}
use Rattle.cola_spec.specs.Map.{Shape, Map}
use Rattle.cola_spec.specs.Machine as machine
use Rattle.cola_spec.specs.Machine.{State}
use Rattle.cola_shapes.specs.Shapes.{shape_of}
use Rattle.cola_image.specs.Standing.{HeaderStandsFor, with_state}
use Rattle.cola_command.specs.declared.place.Place.{Place}
use Rattle.cola_command.specs.declared.place.Place.TheVariants.{Open, Closing, Closed}
use Rattle.cola_store.specs.Store.{Stored, Holds, geometry_of, device_in}
use Rattle.cola_store.specs.Sessions.{Owes}
use Rattle.cola_run.specs.Store as run

-- Sizes

-- the format, the keys, the lowest level and the block of a file, of 2 ^ block_exp cells
pub record Sizes : Type 0 where
  pub format : Format
  pub keys : ℕ
  pub bottom : ℕ
  pub block_exp : ℕ

abbrev pub sizes_of : Geometry → Sizes
sizes_of geometry = record { format = geometry.format; keys = geometry.keys; bottom = geometry.bottom; block_exp = geometry.block_exp }

-- those that a header says
abbrev pub sizes_in : Fields → Sizes
sizes_in header = record { format = header.format; keys = header.keys; bottom = header.bottom; block_exp = header.block_exp }

-- the maps that a file of these sizes may stand for
abbrev pub shape : Sizes → Shape
shape sizes = shape_of sizes.format sizes.keys

-- how many bytes the cells of such a file have
abbrev pub size_of : Sizes → ℕ
size_of sizes = file_size sizes.format sizes.bottom

-- there are as many bytes, and those behind the cells are the same
pub record KeepsBehind (sizes : Sizes) (before now : List ℕ) : Type 0 where
  pub many : length now ≡ length before
  pub behind : drop (size_of sizes) now ≡ drop (size_of sizes) before

-- Files

-- a file has all cells, and a header of these sizes, whatever its state byte is
pub record HasSizes (sizes : Sizes) (bytes : List ℕ) : Type 0 where
  pub state : ℕ
  pub header : Fields
  pub has : HasHeader header (with_state state bytes)
  pub sizes_are : sizes_in header ≡ sizes

-- a file of these sizes stands for a map but for its state byte, which is this one (a number above 255, which no byte is, counts as 255)
pub record StandsBut (sizes : Sizes) (m : Map) (byte : ℕ) (bytes : List ℕ) : Type 0 where
  pub header : Fields
  pub stands : HeaderStandsFor header (with_state 0 bytes) m
  pub sizes_are : sizes_in header ≡ sizes
  pub state : ℕ
  pub state_is : with_state state bytes ≡ bytes
  pub byte_is : byte ≡ min state 255

-- Places

-- the device of a session
abbrev pub device_of : {D : Type 0} {d : device.Ghosts D} → Place D d → D
device_of (Open store) = device_in store
device_of (Closing closing) = run.device_of closing.runs
device_of (Closed device) = device

-- the store while it is open
abbrev pub table_in : {D : Type 0} {d : device.Ghosts D} → Place D d → Option (Stored D)
table_in (Open store) = Some store
table_in (Closing closing) = None
table_in (Closed device) = None

-- the format of lines: that of the store while it is open, else the last one
abbrev pub format_of : {D : Type 0} {d : device.Ghosts D} → Place D d → Format → Format
format_of (Open store) last = (geometry_of store).format
format_of (Closing closing) last = last
format_of (Closed device) last = last

module _ {D : Type 0} (d : device.Ghosts D) where
  -- how many faults the device of a session met
  abbrev pub faults_of : Place D d → ℕ
  faults_of place = (d.counts (device_of place)).faults

  abbrev pub SizesAre : Sizes → Place D d → Type 0
  SizesAre sizes (Open store) = sizes_of (geometry_of store) ≡ sizes
  SizesAre sizes (Closing closing) = sizes_of closing.header.geometry ≡ sizes
  SizesAre sizes (Closed device) = IfSome (d.bytes device) (HasSizes sizes)

  -- the device tells its bytes, and the file has these sizes
  pub record IsOfSizes (sizes : Sizes) (place : Place D d) : Type 0 where
    pub tells : IsSome (d.bytes (device_of place))
    pub sizes_are : SizesAre sizes place

  -- a store of these sizes that is not closed yet owes a map to the file that its device tells
  pub record OwesMap (sizes : Sizes) (place : Place D d) (owes : Type 0) : Type 0 where
    pub of_sizes : IsOfSizes sizes place
    pub owed : owes

  -- the place of a store is at a state: the open store holds the map, the one that is not closed yet owes it to its file, or the file stands for it but for its state byte
  abbrev pub IsAt : Sizes → Place D d → State → Type 0
  IsAt sizes (Open store) (machine.Open m) = (sizes_of (geometry_of store) ≡ sizes) × Holds d.bytes store m
  IsAt sizes (Closing closing) (machine.Closing m) = OwesMap sizes (Closing closing) (Owes d closing m)
  IsAt sizes (Closed device) (machine.Closed m byte) = IsSomeAnd (d.bytes device) (StandsBut sizes m byte)
  IsAt sizes _ _ = ⊥
