-- A new store in lent bytes that is filled with rows: what a load has, and what each call answers and leaves.
use Rattle.std.specs.Prelude.{◌≡◌, ◌≢◌, ◌⊎◌, ℕ, ◌+◌, ◌-◌, ◌≤◌, ◌<◌, false, List, [], ◌∷◌, ◌++◌, length, Option, Some, Result, Ok, Err}
use denote.RawPtr.{Ptr}
use Rattle.cola_cell.specs.declared.format.Format.{Format}
use Rattle.cola_cell.specs.declared.format.Format.TheVariants.{One, Two}
use Rattle.cola_cell.specs.Format.{KeyFits, ValueFits}
use Rattle.cola_layout.specs.declared.fault.LayoutFault.{LayoutFault}
use Rattle.cola_layout.specs.declared.geometry.Geometry.{Geometry}
use Rattle.cola_layout.specs.Geometry.{Refuses}
use Rattle.cola_layout.specs.Header.{version_of}
use Rattle.cola_run.specs.Cells.{file_bytes}
use Rattle.cola_spec.specs.Map.{Map, pairs, count}
use Rattle.cola_load.specs.Filled.{Row, map_of}
use Rattle.cola_load.specs.Loading.{Loading, HoldsRows, IsAbove, IsHeadless, full_blocks}
use Rattle.cola_tools.specs.declared.fault.ToolFault.{ToolFault}
use Rattle.cola_tools.specs.declared.fault.ToolFault.TheVariants.{Options, Small, NotEmpty, Memory, Length, Order, Full}
use Rattle.cola_tools.specs.New.{New, Place, place_of, file_of}
use Rattle.cola_tools.specs.Growing.{AreZero, IsFilledIn, StandsIn}

-- a key with its value
abbrev pub Pair : Type 0
Pair = List ℕ × List ℕ

-- the stamp of the row with this number: the number, where the format has stamps
abbrev pub stamp_at : Format → ℕ → ℕ
stamp_at One number = 0
stamp_at Two number = number

-- pairs as rows, by numbers from this one on
abbrev pub numbered : Format → ℕ → List Pair → List Row
numbered format number [] = []
numbered format number (pair ∷ rest) = record { key = pair.0; value = pair.1; stamp = stamp_at format number } ∷ numbered format (number + 1) rest

-- the last stamp of a store that is filled: that of as many rows as it is for
abbrev pub last_of : Geometry → ℕ
last_of geometry = stamp_at geometry.format geometry.keys

-- the map of pairs by rising keys
abbrev pub map_of_pairs : Geometry → List Pair → Map
map_of_pairs geometry rows = map_of (last_of geometry) (numbered geometry.format 1 rows)

-- the loader, and the device over the lent bytes
pub record Loads : Type 0 where
  pub loader : Loading
  pub device : New

-- what a load may be: its file is laid out, and it knows how far the loader is
pub record IsLoad (loader : Loading) (device : New) (geometry : Geometry) (rows : ℕ) (key : Option (List ℕ)) : Type 0 where
  pub geometry_is : loader.geometry ≡ geometry
  pub last_is : loader.last ≡ last_of geometry
  pub rows_are : loader.rows ≡ rows
  pub key_is : loader.key ≡ key
  pub few : rows ≤ geometry.keys
  pub laid : device.refused ≡ false
  pub size_is : device.size ≡ file_bytes geometry
  pub no_header : IsHeadless (file_of device)

-- for which store
abbrev pub geometry_of : Loads → Geometry
geometry_of load = load.loader.geometry

-- it holds these rows, each with its number as its stamp where the format has stamps
pub record Holds (load : Loads) (rows : List Pair) : Type 0 where
  pub last_is : load.loader.last ≡ last_of (geometry_of load)
  pub held : HoldsRows load.loader (file_of load.device) (numbered (geometry_of load).format 1 rows)

-- where bytes lie, and how many there are
abbrev pub place_in : Ptr → ℕ → List ℕ → Place
place_in at len bytes = record { at = at; len = len; many = length bytes }

-- a load of no rows, for a store with this geometry, in bytes at this place: the device was not written
pub record HasBegun (geometry : Geometry) (place : Place) (load : Loads) : Type 0 where
  pub geometry_is : geometry_of load ≡ geometry
  pub none : Holds load []
  pub no_rows : load.loader.rows ≡ 0
  pub place_is : place_of load.device ≡ place
  pub no_reads : load.device.reads ≡ 0
  pub no_writes : load.device.writes ≡ 0

module _ (keys block_exp version : ℕ) where
  -- a geometry for so many keys, with these blocks, in the format of this version
  pub record HasSizes (geometry : Geometry) : Type 0 where
    pub version_is : version ≡ version_of geometry.format
    pub keys_are : geometry.keys ≡ keys
    pub block_is : geometry.block_exp ≡ block_exp

  -- why there is none: the version is that of no format, or the keys or the block are refused
  abbrev pub LacksSizes : Type 0
  LacksSizes = ((format : Format) → version ≢ version_of format) ⊎ ((fault : LayoutFault) × Refuses keys block_exp fault)

  -- there is one, and this holds of the bytes of its file
  abbrev pub Takes : (ℕ → Type 0) → Type 0
  Takes P = (geometry : Geometry) × (HasSizes geometry × P (file_bytes geometry))

  module _ (before : List ℕ) where
    -- a load of no rows was begun in bytes that were zero, and enough for the store
    pub record IsBegun (place : Place) (load : Loads) : Type 0 where
      pub sizes : HasSizes (geometry_of load)
      pub enough : file_bytes (geometry_of load) ≤ length before
      pub was_zero : AreZero before
      pub begun : HasBegun (geometry_of load) place load

    -- why none was begun
    abbrev pub IsUnbegun : ToolFault → Type 0
    IsUnbegun Options = LacksSizes
    IsUnbegun Small = Takes (λ size. length before < size)
    IsUnbegun NotEmpty = Takes (λ size. size ≤ length before) × (AreZero before → ⊥)
    IsUnbegun Memory = Takes (λ size. size ≤ length before) × AreZero before
    IsUnbegun _ = ⊥

-- a format has room for a key and a value of these bytes
pub record IsRow (format : Format) (key value : List ℕ) : Type 0 where
  pub some : 1 ≤ length key
  pub key_fits : KeyFits format key
  pub value_fits : ValueFits format value

module _ (old : Loads) (key value : List ℕ) where
  -- a row may come behind those so far
  pub record MayFollow : Type 0 where
    pub is_row : IsRow (geometry_of old).format key value
    pub above : IsAbove old.loader.key key
    pub room : old.loader.rows < (geometry_of old).keys

  -- why a row is refused
  abbrev pub RowCause : ToolFault → Type 0
  RowCause Length = IsRow (geometry_of old).format key value → ⊥
  RowCause Order = IsRow (geometry_of old).format key value × (IsAbove old.loader.key key → ⊥)
  RowCause Full = IsRow (geometry_of old).format key value × IsAbove old.loader.key key × (old.loader.rows ≡ (geometry_of old).keys)
  RowCause _ = ⊥

  -- one row more: nothing was read, and no more blocks were written than it fills
  pub record HasOneMore (new : Loads) : Type 0 where
    pub holds : (rows : List Pair) → Holds old rows → Holds new (rows ++ (key, value) ∷ [])
    pub rows_are : new.loader.rows ≡ old.loader.rows + 1
    pub key_is : new.loader.key ≡ Some key
    pub geometry_stays : geometry_of new ≡ geometry_of old
    pub place_stays : place_of new.device ≡ place_of old.device
    pub reads_stay : new.device.reads ≡ old.device.reads
    pub writes_rise : new.device.writes ≤ old.device.writes
        + (full_blocks (geometry_of old) (old.loader.rows + 1) - full_blocks (geometry_of old) old.loader.rows)

-- what a row answers: a refused one leaves all
abbrev pub Rows : (old new : Loads) (key value : List ℕ) → Result Unit ToolFault → Type 0
Rows old new key value (Ok answer) = MayFollow old key value × HasOneMore old key value new
Rows old new key value (Err why) = RowCause old key value why × (new ≡ old)

-- the store of the rows that were held stands in the bytes
abbrev pub Ends : Loads → List ℕ → Type 0
Ends load bytes = (rows : List Pair) → Holds load rows
    → IsFilledIn (geometry_of load) (last_of (geometry_of load)) (numbered (geometry_of load).format 1 rows) bytes

-- the bytes stand for the map of these pairs, and it has no others
pub record StandForPairs (geometry : Geometry) (rows : List Pair) (bytes : List ℕ) : Type 0 where
  pub stands : StandsIn geometry (map_of_pairs geometry rows) bytes
  pub pairs_are : pairs (map_of_pairs geometry rows) ≡ rows
  pub many : count (map_of_pairs geometry rows) ≡ length rows
