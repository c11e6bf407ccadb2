-- What the one call that the program makes answers in each mode, and what it leaves.
use Rattle.std.specs.Prelude.{ℕ, ◌≡◌, Bool, length, Option, Some, None, Result, Ok, Err, IsSomeAnd}
use Rattle.cola_cell.specs.declared.format.Format.{Format}
use Rattle.cola_device.specs.declared.device.Device as device
use Rattle.cola_io.specs.declared.source.Source as source
use Rattle.cola_io.specs.declared.sink.Sink as sink
use Rattle.cola_store.specs.Create.{Made, WasNotEmpty, DeviceFailed, CountsOneWrite}
use Rattle.cola_spec.specs.Map.{Map}
use Rattle.cola_wide.specs.declared.fault.UpgradeFault.{UpgradeFault}
use Rattle.cola_wide.specs.declared.fault.UpgradeFault.TheVariants as upgrade
use Rattle.cola_wide.specs.Upgrade.{Upgrades, CanBeUpgraded, IsDoneForMemory}
use Rattle.cola_words.specs.declared.mode.Mode.{Mode}
use Rattle.cola_words.specs.declared.mode.Mode.TheVariants.{Mem, Create, Run, Gen, Upgrade, Check, Load, Grow, Rebuild}
use Rattle.cola_session.specs.Ends.{Untouched}
use Rattle.cola_session.specs.Memory.{MemoryEnds}
use Rattle.cola_store.specs.Table.{store_table}
use Rattle.cola_filling.specs.Loads.{LoadEnds}
use Rattle.cola_filling.specs.Grows.{GrowEnds}
use Rattle.cola_command.specs.Checked.{CheckEnds}
use Rattle.cola_command.specs.Headline.{FileEnds}
use Rattle.cola_command.specs.Mirrored.{MirrorEnds, RebuildEnds}
use Rattle.cola_workload.specs.Workload.{GenEnds, FaultsCaused, EndsOnEmpty}

-- how making a file ends, by its status: the file is made, a call of the device was refused, or the device had bytes
pub data CreateEnds {D : Type 0} (d : device.Ghosts D) (format : Format) (keys block_exp : ℕ) (device device' : D) (status : ℕ) : Type 0 where
  Status0 : status ≡ 0 → Made d format keys block_exp device device' → CreateEnds d format keys block_exp device device' status
  Status5 : status ≡ 5 → DeviceFailed d format keys block_exp device device' → CreateEnds d format keys block_exp device device' status
  Status8 : status ≡ 8 → WasNotEmpty d format keys block_exp device device' → CreateEnds d format keys block_exp device device' status

-- the status by which an upgrade ends
abbrev pub upgrade_status : Result (Unit {0}) UpgradeFault → ℕ
upgrade_status (Ok _) = 0
upgrade_status (Err upgrade.Small) = 6
upgrade_status (Err upgrade.NotStore) = 6
upgrade_status (Err upgrade.Already) = 12
upgrade_status (Err upgrade.NotClosed) = 7
upgrade_status (Err upgrade.OutOfMemory) = 1
upgrade_status (Err upgrade.NotEmpty) = 8
upgrade_status (Err upgrade.Device) = 5
upgrade_status (Err (upgrade.BadCell cell)) = 10

-- how an upgrade ends: by its answer, with its cause and what both devices have then; the first device is never written. Where its file stands for a map and the second device is empty, and no count of faults rose, it is done but for want of memory
pub record UpgradeEnds {D : Type 0} (d : device.Ghosts D) (device device' second second' : D) (status : ℕ) : Type 0 where
  pub answer : Result (Unit {0}) UpgradeFault
  pub status_is : status ≡ upgrade_status answer
  pub upgraded : Upgrades d d device device' second second' answer
  pub source_stays : d.bytes device' ≡ d.bytes device
  pub no_write : (d.counts device').writes ≡ (d.counts device).writes
  pub kept : d.kept device' ≡ d.kept device
  pub second_kept : d.kept second' ≡ d.kept second
  pub complete : (m : Map) → CanBeUpgraded d d device device' second second' m → IsDoneForMemory answer

module _ {S K D : Type 0} (g : source.Ghosts S) (h : sink.Ghosts K) (d : device.Ghosts D) (source source' : S) (sink sink' : K) (device device' second second' : D) (steps steps' : ℕ) (status : ℕ) where
  -- nothing was touched
  pub record Refused : Type 0 where
    pub status_is : status ≡ 2
    pub untouched : Untouched source source' sink sink' steps steps'
    pub device_stays : device' ≡ device
    pub second_stays : second' ≡ second

  -- a session over a table in memory for so many keys, which calls no device
  pub record ServedInMemory (keys : ℕ) : Type 0 where
    pub ends : MemoryEnds g h keys source source' sink sink' steps steps' status
    pub device_stays : device' ≡ device
    pub second_stays : second' ≡ second

  -- a file was made or was not, and the first device alone was called
  pub record MadeFile (keys block_exp : ℕ) (format : Format) : Type 0 where
    pub ends : CreateEnds d format keys block_exp device device' status
    pub untouched : Untouched source source' sink sink' steps steps'
    pub kept : d.kept device' ≡ d.kept device
    pub counts : CountsOneWrite (d.counts device) (d.counts device')
    pub second_stays : second' ≡ second

  -- a session over the file of the first device, which alone is called
  pub record ServedFile (cache : ℕ) (cost : Bool) : Type 0 where
    pub ends : FileEnds g h d cache cost source source' sink sink' device device' steps steps' status
    pub second_stays : second' ≡ second

  -- the stated workload was carried out on a new file of the first device, or was ended by a refusal; that device and the sink alone were called
  pub record ServedWorkload (keys : ℕ) : Type 0 where
    pub ends : GenEnds h d (store_table d) keys device device' sink sink' steps steps' status
    pub faults : FaultsCaused status (d.counts device).faults (d.counts device').faults
    pub on_empty : IsSomeAnd (d.bytes device) (λ bytes. length bytes ≡ 0) → EndsOnEmpty h keys sink sink' (d.bytes device') status
    pub kept : d.kept device' ≡ d.kept device
    pub source_stays : source' ≡ source
    pub second_stays : second' ≡ second

  -- the file of the first device was upgraded to the second or was not, and the devices alone were called
  pub record UpgradedFile : Type 0 where
    pub ends : UpgradeEnds d device device' second second' status
    pub untouched : Untouched source source' sink sink' steps steps'

  -- a session over the files of both devices
  pub record ServedMirror (cache : ℕ) (cost : Bool) : Type 0 where
    pub ends : MirrorEnds g h d cache cost source source' sink sink' device device' second second' steps steps' status

  -- the file of the second device was made equal to that of the first or was not, and the devices alone were called
  pub record RebuiltFile : Type 0 where
    pub ends : RebuildEnds d device device' second second' status
    pub untouched : Untouched source source' sink sink' steps steps'

  -- the file of the first device was tested or was not, and that device and the sink alone were called; the device was not written
  pub record CheckedFile : Type 0 where
    pub ends : CheckEnds h d device device' sink sink' steps steps' status
    pub no_write : (d.counts device').writes ≡ (d.counts device).writes
    pub kept : d.kept device' ≡ d.kept device
    pub source_stays : source' ≡ source
    pub second_stays : second' ≡ second

  -- rows were loaded into the file of the first device or were not, and that device, the source and the sink alone were called
  pub record LoadedFile (keys block_exp : ℕ) (format : Format) : Type 0 where
    pub ends : LoadEnds g h d keys block_exp format source source' sink sink' device device' status
    pub kept : d.kept device' ≡ d.kept device
    pub steps_stay : steps' ≡ steps
    pub second_stays : second' ≡ second

  -- the map of the first device's file was copied into that of the second or was not; the devices and the sink alone were called, and the first device was not written
  pub record GrownFile (keys block_exp : ℕ) : Type 0 where
    pub ends : GrowEnds h d keys block_exp device device' second second' sink sink' steps steps' status
    pub no_write : (d.counts device').writes ≡ (d.counts device).writes
    pub kept : d.kept device' ≡ d.kept device
    pub second_kept : d.kept second' ≡ d.kept second
    pub source_stays : source' ≡ source

  -- by the mode that the words name, and refused where they name none
  abbrev pub Serves : Option Mode → Type 0
  Serves (Some (Mem keys)) = ServedInMemory keys
  Serves (Some (Create keys block_exp format)) = MadeFile keys block_exp format
  Serves (Some (Run cache cost None)) = ServedFile cache cost
  Serves (Some (Gen keys)) = ServedWorkload keys
  Serves (Some (Run cache cost (Some place))) = ServedMirror cache cost
  Serves (Some Upgrade) = UpgradedFile
  Serves (Some Rebuild) = RebuiltFile
  Serves (Some Check) = CheckedFile
  Serves (Some (Load keys block_exp format)) = LoadedFile keys block_exp format
  Serves (Some (Grow keys block_exp)) = GrownFile keys block_exp
  Serves None = Refused
