-- What loading and flushing a run store leave.
use Rattle.std.specs.Prelude.{◌≡◌, ◌≢◌, ◌⊎◌, ℕ, ◌+◌, ◌-◌, ◌*◌, ◌≤◌, ◌<◌, ◌==◌, if◌then◌else◌, List, ◌++◌, length, take, drop, replicate, Option, IfSome, Result, Ok, Err, true}
use Rattle.cola_outside.specs.Faults.{Rose}
use Rattle.cola_outside.specs.Told.{Both}
use Rattle.cola_cell.specs.declared.fault.ReadFault.{ReadFault}
use Rattle.cola_cell.specs.declared.fault.ReadFault.TheVariants.{Device, BadCell}
use Rattle.cola_cell.specs.declared.sink.Shadow.{Shadow}
use Rattle.cola_cell.specs.Format.{width}
use Rattle.cola_cell.specs.Held.{Held, Spots, Bad}
use Rattle.cola_cell.specs.Places.{number_of, IsPlace}
use Rattle.cola_cell.specs.Spent.{ReadCalm}
use Rattle.cola_clock.specs.Clock.{visible_slot}
use Rattle.cola_device.specs.declared.counts.Counts.{Counts}
use Rattle.cola_device.specs.declared.device.Device as device
use Rattle.cola_device.specs.Settling.{IsSettled}
use Rattle.cola_layout.specs.Cells.{file_spots}
use Rattle.cola_layout.specs.declared.geometry.Geometry.{Geometry}
use Rattle.cola_layout.specs.declared.header.Header.{Header}
use Rattle.cola_layout.specs.Marks.{marks_of}
use Rattle.cola_run.specs.Cells.{IsOnDevice, block_bytes, block_cells, file_bytes}

-- these spots are those of the file at every place
abbrev pub AreFileSpots : Geometry → Spots → List ℕ → Type 0
AreFileSpots geometry spots bytes = (level slot index : ℕ) → IsPlace (geometry.bottom + 1) level slot index →
    spots level slot index ≡ file_spots geometry.format bytes level slot index

-- how the shadow of a level stands by a header: beside the visible run, with the length of its marks, and on the device
abbrev pub header_shadow : Header → ℕ → Shadow
header_shadow header level =
    record {
      slot = 1 - visible_slot header.clock level;
      len = (marks_of header.levels.items level).shadow;
      saved = true;
    }

-- the shadow of each level down to the last stands as a header has it
abbrev pub AreHeaderShadows : (bottom : ℕ) → Header → (ℕ → Shadow) → Type 0
AreHeaderShadows bottom header shadows = (level : ℕ) → level ≤ bottom → shadows level ≡ header_shadow header level

-- how many cells the run in a slot has by a header
abbrev pub run_len : Header → ℕ → ℕ → ℕ
run_len header level slot =
    if slot == visible_slot header.clock level
    then (marks_of header.levels.items level).visible
    else (marks_of header.levels.items level).shadow

-- a place of a run in the front
pub record IsFrontRun (header : Header) (level slot index : ℕ) : Type 0 where
  pub front : level + 2 < header.geometry.block_exp
  pub slot_in : slot < 2
  pub within : index < run_len header level slot

-- no cell of a run of the front is bad
abbrev pub AreFrontRunsSpelled : Header → Spots → Type 0
AreFrontRunsSpelled header spots = (level slot index : ℕ) → IsFrontRun header level slot index → spots level slot index ≢ Bad

-- the lowest cell of the runs of the front that is bad, by its number
pub record IsLowestBad (header : Header) (spots : Spots) (number : ℕ) : Type 0 where
  pub level : ℕ
  pub slot : ℕ
  pub index : ℕ
  pub run : IsFrontRun header level slot index
  pub at : number ≡ number_of level slot index
  pub bad : spots level slot index ≡ Bad
  pub lowest : (l s i : ℕ) → IsFrontRun header l s i → number_of l s i < number → spots l s i ≢ Bad

-- what a load says by its answer, of the bytes of the device where it tells them: the runs of the front are spelled; or the
-- device failed; or this cell of theirs is the lowest that is not
abbrev pub LoadAnswers : Header → Option (List ℕ) → (before now : ℕ) → Result (Unit {0}) ReadFault → Type 0
LoadAnswers header told before now (Ok _) =
    IfSome told (λ bytes. AreFrontRunsSpelled header (file_spots header.geometry.format bytes))
LoadAnswers header told before now (Err Device) = Rose before now
LoadAnswers header told before now (Err (BadCell number)) =
    IfSome told (λ bytes. IsLowestBad header (file_spots header.geometry.format bytes) number)

-- what a load spends: at most so many reads of the device, and no other call
pub record LoadSpends (before now : Counts) (reads : ℕ) (result : Result (Unit {0}) ReadFault) : Type 0 where
  pub faults_stay : before.faults ≤ now.faults
  pub calm : ReadCalm before.faults now.faults result
  pub reads_stay : before.reads ≤ now.reads
  pub reads_rise : now.reads ≤ before.reads + reads
  pub writes_is : now.writes ≡ before.writes
  pub others_are : now.others ≡ before.others

-- the cells that a store holds after a load: those of the file, and each shadow as the header has it
pub record IsLoaded (header : Header) (held : Held) (told : Option (List ℕ)) : Type 0 where
  pub spots : IfSome told (AreFileSpots header.geometry held.spots)
  pub shadows : AreHeaderShadows header.geometry.bottom header held.shadows

-- each cell is as before
abbrev pub SameSpots : (before now : Held) → Type 0
SameSpots before now = (level slot index : ℕ) → now.spots level slot index ≡ before.spots level slot index

-- what a store reads stays: its shadows, but for what of them is on the device, and all its cells but those behind a shadow
-- in its slot
pub record SameReads (old new : Held) : Type 0 where
  pub fixed_is : new.fixed ≡ old.fixed
  pub slots_stay : (level : ℕ) → (new.shadows level).slot ≡ (old.shadows level).slot
  pub lens_stay : (level : ℕ) → (new.shadows level).len ≡ (old.shadows level).len
  pub spots_stay : (level slot index : ℕ) → (slot ≢ (old.shadows level).slot) ⊎ (index < (old.shadows level).len) →
      new.spots level slot index ≡ old.spots level slot index

-- a file that has a store's header and cells: the header's cells are its bytes and zeros, and every cell is the store's
pub record IsFlushed (geometry : Geometry) (header : List ℕ) (spots : Spots) (bytes : List ℕ) : Type 0 where
  pub header_is : take (8 * width geometry.format) bytes ≡
      header ++ replicate (8 * width geometry.format - 512) 0
  pub cells_are : AreFileSpots geometry spots bytes

-- these spots are those of the file at every place of a level on the device
abbrev pub AreLevelSpots : Geometry → Spots → List ℕ → Type 0
AreLevelSpots geometry spots bytes = (level slot index : ℕ) →
    IsOnDevice geometry level → IsPlace (geometry.bottom + 1) level slot index →
    spots level slot index ≡ file_spots geometry.format bytes level slot index

-- the front's two blocks are as before
abbrev pub SameFront : Geometry → (before now : List ℕ) → Type 0
SameFront geometry before now = take (2 * block_bytes geometry) now ≡ take (2 * block_bytes geometry) before

-- all behind the front's two blocks is as before
abbrev pub SameLevels : Geometry → (before now : List ℕ) → Type 0
SameLevels geometry before now = drop (2 * block_bytes geometry) now ≡ drop (2 * block_bytes geometry) before

-- these spots are those of the file at every place behind block 0
abbrev pub AreSpotsBehind : Geometry → Spots → List ℕ → Type 0
AreSpotsBehind geometry spots bytes = (level slot index : ℕ) →
    IsPlace (geometry.bottom + 1) level slot index → block_cells geometry ≤ number_of level slot index →
    spots level slot index ≡ file_spots geometry.format bytes level slot index

-- block 0 comes last: it is as before, or every cell behind it is in the file
abbrev pub IsFirstLast : Geometry → Spots → (before now : List ℕ) → Type 0
IsFirstLast geometry spots before now =
    (take (block_bytes geometry) now ≡ take (block_bytes geometry) before) ⊎ AreSpotsBehind geometry spots now

-- the front waited for the levels: a device in between settled, with the front's two blocks as before and all behind them as
-- now; every cell of the levels on the device is in the file; and block 0 came last
pub record FrontWaited {D : Type 0} (d : device.Ghosts D) (geometry : Geometry) (spots : Spots) (before now : D) : Type 0 where
  pub between : D
  pub levels_settled : IsSettled d between
  pub front_waits : Both (d.bytes before) (d.bytes between) (SameFront geometry)
  pub levels_stay : Both (d.bytes between) (d.bytes now) (SameLevels geometry)
  pub levels_are : IfSome (d.bytes now) (AreLevelSpots geometry spots)
  pub first_waits : Both (d.bytes before) (d.bytes now) (IsFirstLast geometry spots)

-- the front comes last: its two blocks are as before, or it waited
abbrev pub IsFrontLast : {D : Type 0} (d : device.Ghosts D) → Geometry → Spots → (before now : D) → Type 0
IsFrontLast d geometry spots before now =
    Both (d.bytes before) (d.bytes now) (SameFront geometry) ⊎ FrontWaited d geometry spots before now

-- bytes of which none at or behind the end of a store's file changed
pub record SameBehind (geometry : Geometry) (before now : List ℕ) : Type 0 where
  pub many : length now ≡ length before
  pub behind : drop (file_bytes geometry) now ≡ drop (file_bytes geometry) before

-- the device settled between the levels and the front, and at the end: the front waited for the first, and nothing but the
-- front changed after it
pub record SettlesTwice {D : Type 0} (d : device.Ghosts D) (geometry : Geometry) (before now : D) : Type 0 where
  pub between : D
  pub levels_settled : IsSettled d between
  pub front_waits : Both (d.bytes before) (d.bytes between) (SameFront geometry)
  pub levels_stay : Both (d.bytes between) (d.bytes now) (SameLevels geometry)
  pub settled : IsSettled d now
