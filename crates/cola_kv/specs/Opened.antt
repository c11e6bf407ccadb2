-- How a store is made, opened, closed and kept safe in between: what each answer says, and what it leaves.
use Rattle.std.specs.Prelude.{◌≡◌, ◌⊎◌, ℕ, min, List, IfSome}
use Rattle.std.specs.Option.{IsSomeAnd}
use Rattle.cola_outside.specs.Faults.{Rose}
use Rattle.cola_outside.specs.Told.{Both}
use Rattle.cola_device.specs.declared.device.Device as device
use Rattle.cola_device.specs.Bytes.{IsEmpty}
use Rattle.cola_device.specs.Settling.{IsSettled}
use Rattle.cola_layout.specs.declared.fault.LayoutFault.TheVariants as layout
use Rattle.cola_layout.specs.declared.geometry.Geometry.{Geometry}
use Rattle.cola_layout.specs.declared.header.Header.{Header}
use Rattle.cola_layout.specs.Geometry.{Refuses}
use Rattle.cola_opening.specs.Judged.{IsSmall, IsNoStore, IsInUse, IsSeen}
use Rattle.cola_spec.specs.Map.{Map, empty_map}
use Rattle.cola_image.specs.Standing.{FileStandsFor, with_state}
use Rattle.cola_run.specs.Store as run
use Rattle.cola_store.specs.Create.{Suits, IsNewFile, HasNoSizes, WasNotEmpty}
use Rattle.cola_store.specs.Create as creation
use Rattle.cola_store.specs.Open.{WasClosed, HasBadCell, opening_reads}
use Rattle.cola_store.specs.Open as opening
use Rattle.cola_store.specs.Sessions.{Owes, IsStoreOpened, IsStoreClosed, IsStoreOwed}
use Rattle.cola_kv.specs.declared.error.Error.{Error}
use Rattle.cola_kv.specs.declared.error.Error.TheVariants.{Keys, Block, NotEmpty, NotStore, Small, NotClosed, BadCell, OutOfMemory, Device}
use Rattle.cola_kv.specs.declared.kv.Kv.{Kv}
use Rattle.cola_kv.specs.declared.kv.Unfinished.{Unfinished}
use Rattle.cola_kv.specs.declared.kv.Unfinished.TheVariants.{Owed, Closed}
use Rattle.cola_kv.specs.declared.options.Options.{Options}
use Rattle.cola_kv.specs.Kv.{Holds, device_of, faults_of, geometry_of, steps_of, opened_of}

-- the bytes are those of another file, but for the state byte
abbrev pub IsButState : List ℕ → List ℕ → Type 0
IsButState old new = (new ≡ old) ⊎ ((state : ℕ) × (new ≡ with_state state old))

-- these are the bytes of a store that was closed, of this geometry
pub record HasGeometry (geometry : Geometry) (bytes : List ℕ) : Type 0 where
  pub header : Header
  pub was : WasClosed header bytes
  pub geometry_is : geometry ≡ header.geometry

-- two geometries have the same sizes
pub record SameSizes (a b : Geometry) : Type 0 where
  pub keys_are : a.keys ≡ b.keys
  pub block_is : a.block_exp ≡ b.block_exp
  pub bottom_is : a.bottom ≡ b.bottom
  pub format_is : a.format ≡ b.format

module _ {D : Type 0} (d : device.Ghosts D) where
  -- the device tells its bytes, and they stand for this map
  abbrev pub StandsFor : D → Map → Type 0
  StandsFor now m = IsSomeAnd (d.bytes now) (λ bytes. FileStandsFor bytes m)

  -- Making

  -- the device was empty, and settled with the new file of these options, which stands for the empty map, both where it tells its bytes
  pub record IsMade (options : Options) (before now : D) : Type 0 where
    pub bottom : ℕ
    pub suits : Suits options.keys options.block_exp bottom
    pub was_empty : IsEmpty (d.bytes before)
    pub file : IfSome (d.bytes now) (IsNewFile options.format options.keys options.block_exp bottom)
    pub stands : IfSome (d.bytes now) (λ bytes. FileStandsFor bytes empty_map)
    pub settled : IsSettled d now
    pub no_fault : (d.counts now).faults ≡ (d.counts before).faults

  -- why no file was made: numbers that are refused, and the device was not called; bytes that were there, and stay; or the device failed, and bytes that were there stay
  abbrev pub CreateCause : Options → (before now : D) → Error → Type 0
  CreateCause options before now Keys =
      HasNoSizes d options.format options.keys options.block_exp before now (Refuses options.keys options.block_exp layout.Keys)
  CreateCause options before now Block =
      HasNoSizes d options.format options.keys options.block_exp before now (Refuses options.keys options.block_exp layout.Block)
  CreateCause options before now NotEmpty = WasNotEmpty d options.format options.keys options.block_exp before now
  CreateCause options before now Device = creation.DeviceFailed d options.format options.keys options.block_exp before now
  CreateCause options before now _ = ⊥

  -- Opening

  -- the store is open, as its table says: it has the geometry of its file, and the cells, also where these stand for no map; it holds the map that its file stood for, the device settled with the mark that the file is in use, and nothing is counted yet
  pub record IsOpen (before : D) (cache : ℕ) (kv : Kv D d) : Type 0 where
    pub given : IsStoreOpened d before (min cache 4096) kv.store
    pub file : IfSome (d.bytes before) (HasGeometry (geometry_of kv))
    pub holds : IfSome (d.bytes before) (λ bytes. (m : Map) → FileStandsFor bytes m → Holds d kv m)
    pub marked : Both (d.bytes before) (d.bytes (device_of kv)) (λ old new. new ≡ with_state 1 old)
    pub settled : IsSettled d (device_of kv)
    pub no_steps : steps_of kv ≡ 0
    pub no_ticks : kv.ticks ≡ 0
    pub opened_is : opened_of kv ≡ record (d.counts before) { others = 0 }
    pub cache_is : kv.cache ≡ min cache 4096

  -- why it was not opened. Each reason but a failing device leaves the bytes; that leaves all but the state byte
  abbrev pub OpenCause : (before now : D) → Error → Type 0
  OpenCause before now NotStore = IsSeen d before IsNoStore 1 1 now
  OpenCause before now Small = IsSeen d before IsSmall 1 1 now
  OpenCause before now NotClosed = IsSeen d before IsInUse 1 1 now
  OpenCause before now OutOfMemory = IsSeen d before (λ bytes. (header : Header) × WasClosed header bytes) 1 1 now
  OpenCause before now (BadCell number) = (header : Header) × IsSeen d before (HasBadCell header number) (opening_reads header) 1 now
  OpenCause before now Device = opening.DeviceFailed d before now
  OpenCause before now _ = ⊥

  -- on a file that stands for a map: there was no memory, or the device failed
  abbrev pub IsOpenRefusal : (before now : D) → Error → Type 0
  IsOpenRefusal before now error = (error ≡ OutOfMemory) ⊎ ((error ≡ Device) × Rose (d.counts before).faults (d.counts now).faults)

  -- Keeping safe

  -- the device settled with a file that stands for the map, and has its bytes still but for the state byte
  pub record IsSaved (m : Map) (now : D) : Type 0 where
    pub saved : D
    pub settled : IsSettled d saved
    pub stands : StandsFor saved m
    pub left : Both (d.bytes saved) (d.bytes now) IsButState

  -- a checkpoint: the store was closed, and the file that this left was opened, behind as large a cache. The sizes stay, where the device tells its bytes
  pub record Reopens (old new : Kv D d) : Type 0 where
    pub closed : D
    pub closes : IsStoreClosed d old.store closed
    pub again : IsOpen closed old.cache new
    pub geometry_stays : IfSome (d.bytes (device_of new)) (λ bytes. SameSizes (geometry_of new) (geometry_of old))

  -- why a checkpoint was not finished: the device failed in the closing, and all is owed, or what the closing left was not opened
  abbrev pub UnfinishedCause : Kv D d → Unfinished D d → Type 0
  UnfinishedCause old (Owed closing) =
      Rose (faults_of d old) (d.counts (run.device_of closing.runs)).faults × IsStoreOwed d old.store closing
  UnfinishedCause old (Closed now error) = (saved : D) × IsSettled d saved × IsStoreClosed d old.store saved × OpenCause saved now error

  -- what is left of a checkpoint that was not finished: the map is owed to the file, or it is saved and the store was not opened again
  abbrev pub IsLeft : Map → Unfinished D d → Type 0
  IsLeft m (Owed closing) = Owes d closing m
  IsLeft m (Closed now error) = IsSaved m now × ((error ≡ OutOfMemory) ⊎ (error ≡ Device))
