-- What copying the map of a closed store in some bytes into other bytes answers, with the cause of each answer, and what it leaves of these.
use Rattle.std.specs.Prelude.{◌≡◌, ◌⊎◌, ℕ, ◌+◌, ◌≤◌, ◌<◌, List, length, take, drop, replicate, Result, Ok, Err}
use Rattle.cola_layout.specs.declared.fault.LayoutFault.{LayoutFault}
use Rattle.cola_layout.specs.declared.geometry.Geometry.{Geometry}
use Rattle.cola_layout.specs.Geometry.{Refuses}
use Rattle.cola_layout.specs.Header.{Fields}
use Rattle.cola_opening.specs.Judged.{IsClosedWith, IsSmall, IsNoStore, IsInUse}
use Rattle.cola_run.specs.Cells.{file_bytes}
use Rattle.cola_image.specs.Standing.{HeaderStandsFor, FileStandsFor}
use Rattle.cola_shapes.specs.Shapes.{shape_of}
use Rattle.cola_spec.specs.Map.{Map}
use Rattle.cola_load.specs.Filled.{Row, AreRows, IsFilled, rows_of}
use Rattle.cola_load.specs.declared.fault.GrowFault.{GrowFault}
use Rattle.cola_load.specs.declared.fault.GrowFault.TheVariants as fault
use Rattle.cola_load.specs.Grow.{IsFor, HasKeys, grow_ticks}
use Rattle.cola_load.specs.Loading.{IsHeadless}
use Rattle.cola_tools.specs.declared.fault.ToolFault.{ToolFault}
use Rattle.cola_tools.specs.declared.fault.ToolFault.TheVariants.{Options, NotEmpty, Small, NotStore, NotClosed, Fewer, Memory, BadCell}

-- every byte is zero
abbrev pub AreZero : List ℕ → Type 0
AreZero bytes = bytes ≡ replicate (length bytes) 0

-- of these bytes the first are a file, so many, and all behind them are zero
pub record IsFileIn (size : ℕ) (file bytes : List ℕ) : Type 0 where
  pub inside : size ≤ length bytes
  pub file_is : file ≡ take size bytes
  pub zero_behind : AreZero (drop size bytes)

-- a store with this geometry is filled with these rows, in the first of the bytes; all behind them are zero
pub record IsFilledIn (geometry : Geometry) (last : ℕ) (rows : List Row) (bytes : List ℕ) : Type 0 where
  pub file : List ℕ
  pub in_bytes : IsFileIn (file_bytes geometry) file bytes
  pub are_rows : AreRows (shape_of geometry.format geometry.keys) last rows
  pub filled : IsFilled geometry last rows file

-- there is no store's header: the first bytes are zero
abbrev pub HasNoHeader : List ℕ → Type 0
HasNoHeader bytes = AreZero bytes ⊎ IsHeadless bytes

module _ (keys block_exp : ℕ) (from before now : List ℕ) (ticks ticks_now : ℕ) where
  -- the old bytes are those of a closed store with this header, of which the new store has the format; the cells were read by so many
  -- accesses at most
  pub record IsOf (header : Fields) (geometry : Geometry) : Type 0 where
    pub was : IsClosedWith header from
    pub few : header.count ≤ keys
    pub is_for : IsFor keys block_exp header.format geometry
    pub steps_stay : ticks ≤ ticks_now
    pub few_ticks : ticks_now ≤ ticks + grow_ticks header.bottom

  -- the new bytes, which were zero, are filled with so many rows: those of the map, where the old bytes stand for one
  pub record IsGrown (count : ℕ) : Type 0 where
    pub header : Fields
    pub geometry : Geometry
    pub is_of : IsOf header geometry
    pub was_zero : AreZero before
    pub rows : List Row
    pub count_is : count ≡ length rows
    pub filled : IsFilledIn geometry header.last rows now
    pub as_many : length now ≡ length before
    pub map_is : (m : Map) → HeaderStandsFor header from m → rows ≡ rows_of m

  -- the old bytes stand for no map: a cell that is read is damaged, or the keys do not rise
  pub record HasNoMap : Type 0 where
    pub header : Fields
    pub geometry : Geometry
    pub is_of : IsOf header geometry
    pub none : (m : Map) → ¬ HeaderStandsFor header from m
    pub no_header : HasNoHeader now
    pub as_many : length now ≡ length before

  -- there are fewer new bytes than the new store has
  pub record HasNoRoom : Type 0 where
    pub header : Fields
    pub geometry : Geometry
    pub is_of : IsOf header geometry
    pub fewer : length before < file_bytes geometry

  -- nothing was done, for this reason: the new bytes stay
  abbrev pub IsRefused : Type 0 → Type 0
  IsRefused why = why × (now ≡ before)

  -- what growing answers
  abbrev pub Grows : Result ℕ ToolFault → Type 0
  Grows (Ok count) = IsGrown count
  Grows (Err Options) = IsRefused ((fault : LayoutFault) × Refuses keys block_exp fault)
  Grows (Err NotEmpty) = IsRefused (AreZero before → ⊥)
  Grows (Err Small) = IsRefused (IsSmall from ⊎ ((length before ≡ 0) ⊎ HasNoRoom))
  Grows (Err NotStore) = IsRefused (IsNoStore from)
  Grows (Err NotClosed) = IsRefused (IsInUse from)
  Grows (Err Fewer) = IsRefused ((count : ℕ) × (HasKeys count from × (keys < count)))
  Grows (Err Memory) = IsRefused ((header : Fields) × ((geometry : Geometry) × IsOf header geometry))
  Grows (Err BadCell) = HasNoMap
  Grows (Err _) = ⊥

-- the refusal of a copy. Of the two devices only the new one fails, where there is no room for the new store, and it has no byte before
abbrev pub refusal : GrowFault → ToolFault
refusal fault.Small = Small
refusal fault.NotStore = NotStore
refusal fault.NotClosed = NotClosed
refusal (fault.Fewer count) = Fewer
refusal fault.OutOfMemory = Memory
refusal (fault.BadCell number) = BadCell
refusal fault.NotEmpty = Small
refusal (fault.Disorder number) = BadCell
refusal fault.Device = Small

-- the first of these bytes, as many as a store with this geometry has, stand for a map, and all of them where there are no more
pub record StandsIn (geometry : Geometry) (m : Map) (bytes : List ℕ) : Type 0 where
  pub first : FileStandsFor (take (file_bytes geometry) bytes) m
  pub exact : length bytes ≡ file_bytes geometry → FileStandsFor bytes m
