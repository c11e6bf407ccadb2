-- What the steps of loading and flushing do to the parts of a run store.
use Rattle.std.specs.Prelude.{◌≡◌, ◌≢◌, ◌⊎◌, ℕ, ◌<◌, true, if◌then◌else◌, List, length, option_map, Option, None, IfSome, Result, is_ok}
use Rattle.cola_outside.specs.Told.{Both}
use Rattle.cola_cell.specs.declared.sink.Shadow.{Shadow}
use Rattle.cola_cell.specs.Flat.{shadow_at}
use Rattle.cola_cell.specs.Places.{number_of}
use Rattle.cola_cell.specs.Shadows.{emptied}
use Rattle.cola_device.specs.declared.counts.Counts.{Counts}
use Rattle.cola_device.specs.Counts.{Called}
use Rattle.cola_front.specs.Front.{FrontCells, cell_at}
use Rattle.cola_layout.specs.declared.geometry.Geometry.{Geometry}
use Rattle.cola_layout.specs.declared.header.Header.{Header}
use Rattle.cola_cache.specs.Blocks.{Blocks, Stays}
use Rattle.cola_run.specs.Cells.{Lower, IsOnDevice, IsShape, IsBacked, cells_by, spots_of}
use Rattle.cola_run.specs.Store.{beside}
use Rattle.cola_run.specs.Saving.{IsFrontRun, run_len, SameBehind}

-- the first place of a run of the front at which no cell stands, by its number
pub record BadInRun (front : FrontCells) (level slot len number : ℕ) : Type 0 where
  pub index : ℕ
  pub within : index < len
  pub at : number ≡ number_of level slot index
  pub bad : cell_at front number ≡ None
  pub first : (i : ℕ) → i < index → cell_at front (number_of level slot i) ≢ None

-- a cell stands at each place of a run of the front
abbrev pub NoneBadInRun : FrontCells → (level slot len : ℕ) → Type 0
NoneBadInRun front level slot len = (index : ℕ) → index < len → cell_at front (number_of level slot index) ≢ None

-- the lowest place of the runs of a level of the front at which no cell stands, by its number
pub record BadInLevel (header : Header) (front : FrontCells) (level number : ℕ) : Type 0 where
  pub slot : ℕ
  pub slot_in : slot < 2
  pub bad : BadInRun front level slot (run_len header level slot) number
  -- slot 0 comes before slot 1
  pub before : slot ≡ 1 → (i : ℕ) → i < run_len header level 0 →
      cell_at front (number_of level 0 i) ≢ None

-- a cell stands at each place of the runs of a level of the front
abbrev pub NoneBadInLevel : Header → FrontCells → ℕ → Type 0
NoneBadInLevel header front level =
    (slot index : ℕ) → slot < 2 → index < run_len header level slot → cell_at front (number_of level slot index) ≢ None

-- the lowest place of the front's runs at which no cell stands, by its number
pub record BadInFront (header : Header) (front : FrontCells) (number : ℕ) : Type 0 where
  pub level : ℕ
  pub slot : ℕ
  pub index : ℕ
  pub run : IsFrontRun header level slot index
  pub at : number ≡ number_of level slot index
  pub bad : cell_at front number ≡ None
  pub lowest : (l s i : ℕ) → IsFrontRun header l s i → number_of l s i < number →
      cell_at front (number_of l s i) ≢ None

-- a cell stands at each place of the front's runs
abbrev pub NoneBadInFront : Header → FrontCells → Type 0
NoneBadInFront header front =
    (l s i : ℕ) → IsFrontRun header l s i → cell_at front (number_of l s i) ≢ None

-- reads of whole blocks, at most so many, and no other call
pub record IsReading {D K T E : Type 0} (bytes : D → Option (List ℕ)) (counts : D → Counts) (kept : D → K) (before now : Blocks D) (reads : ℕ) (result : Result T E) : Type 0 where
  pub called : Called (counts before.cache.device) (counts now.cache.device) reads 0 0 result
  pub bytes_stay : bytes now.cache.device ≡ bytes before.cache.device
  pub kept_is : kept now.cache.device ≡ kept before.cache.device
  pub many : length now.lasts ≡ length before.lasts
  pub stays : Stays before now

-- writes of whole blocks, at most so many, and settles, at most so many
pub record IsWriting {D K T E : Type 0} (counts : D → Counts) (kept : D → K) (before now : Blocks D) (writes settles : ℕ) (result : Result T E) : Type 0 where
  pub called : Called (counts before.cache.device) (counts now.cache.device) 0 writes settles result
  pub kept_is : kept now.cache.device ≡ kept before.cache.device
  pub many : length now.lasts ≡ length before.lasts
  pub stays : Stays before now

-- a shadow after its load: none where the device failed
abbrev pub loaded_shadow : {T E : Type 0} → Result T E → Shadow → Shadow
loaded_shadow result shadow = if is_ok result then shadow else emptied shadow.slot

-- shadows and tails stay such as a store may have, whatever its front
pub record StaySound (geometry : Geometry) (old new : Lower) : Type 0 where
  pub shape : (front : FrontCells) → IsShape geometry front old.shadows old.tails →
      IsShape geometry front new.shadows new.tails
  pub backed : (front : FrontCells) → IsShape geometry front old.shadows old.tails →
      IfSome old.told (IsBacked geometry old.shadows old.tails) → IfSome new.told (IsBacked geometry new.shadows new.tails)

-- what stays where tails are written: each shadow, but for what of it is on the device; all cells but those behind a shadow
-- in its slot; and the bytes beside the levels on the device
pub record StayRead (geometry : Geometry) (old new : Lower) : Type 0 where
  pub told : Both old.told new.told (λ _ _. Unit {0})
  pub beside_stays : (front : FrontCells) → IsShape geometry front old.shadows old.tails →
      IfSome old.told (IsBacked geometry old.shadows old.tails) →
      option_map (beside geometry) new.told ≡ option_map (beside geometry) old.told
  pub slots_stay : (level : ℕ) → (shadow_at new.shadows level).slot ≡ (shadow_at old.shadows level).slot
  pub lens_stay : (level : ℕ) → (shadow_at new.shadows level).len ≡ (shadow_at old.shadows level).len
  pub spots_stay : (front : FrontCells) → IsShape geometry front old.shadows old.tails →
      IfSome old.told (IsBacked geometry old.shadows old.tails) → (level slot index : ℕ) →
      (slot ≢ (shadow_at old.shadows level).slot) ⊎ (index < (shadow_at old.shadows level).len) →
      spots_of (cells_by geometry front new) level slot index ≡ spots_of (cells_by geometry front old) level slot index

-- every level on the device below this one has its shadow there
abbrev pub AreSavedBelow : Geometry → List Shadow → ℕ → Type 0
AreSavedBelow geometry shadows end =
    (level : ℕ) → IsOnDevice geometry level → level < end → (shadow_at shadows level).saved ≡ true

-- what a flush leaves of what lies below the front: each shadow, but for what of it is on the device; all cells but those
-- behind a shadow in its slot; and the bytes behind the file
pub record SameCells (geometry : Geometry) (front : FrontCells) (old new : Lower) : Type 0 where
  pub behind : Both old.told new.told (SameBehind geometry)
  pub slots_stay : (level : ℕ) → (shadow_at new.shadows level).slot ≡ (shadow_at old.shadows level).slot
  pub lens_stay : (level : ℕ) → (shadow_at new.shadows level).len ≡ (shadow_at old.shadows level).len
  pub shadows_many : length new.shadows ≡ length old.shadows
  pub spots_stay : (level slot index : ℕ) →
      (slot ≢ (shadow_at old.shadows level).slot) ⊎ (index < (shadow_at old.shadows level).len) →
      spots_of (cells_by geometry front new) level slot index ≡ spots_of (cells_by geometry front old) level slot index
