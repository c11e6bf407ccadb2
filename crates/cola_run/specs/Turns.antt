-- What the steps of a run store do to the blocks of its device.
use Rattle.std.specs.Prelude.{◌≡◌, ◌≢◌, ℕ, ◌+◌, ◌≤◌, Bool, false, if◌then◌else◌, Option, None, Some, Result, Ok, Err, slice_set, map, length, ⊤}
use Rattle.cola_outside.specs.Faults.{Rose}
use Rattle.cola_cell.specs.declared.cell.Cell.{Cell}
use Rattle.cola_cell.specs.declared.cell.Reader.{Reader}
use Rattle.cola_cell.specs.declared.fault.ReadFault.{ReadFault}
use Rattle.cola_cell.specs.declared.fault.ReadFault.TheVariants.{Device, BadCell}
use Rattle.cola_cell.specs.Spent.{ReadCalm}
use Rattle.cola_device.specs.declared.counts.Counts.{Counts}
use Rattle.cola_device.specs.Counts.{Called}
use Rattle.cola_device.specs.declared.device.Device as device
use Rattle.cola_layout.specs.declared.geometry.Geometry.{Geometry}
use Rattle.cola_cache.specs.Blocks.{Blocks, Stays, last_in, forgotten}
use Rattle.cola_run.specs.Store.{buffer_number}

-- the buffer of a reader at a level on the device, or that of searches, by its number
abbrev pub buffer_index : Geometry → Option Reader → ℕ → ℕ
buffer_index geometry None level = 0
buffer_index geometry (Some reader) level = buffer_number geometry reader level

-- a read met the device's fault only where that was counted
abbrev pub HasReadCause : ℕ → ℕ → Result Cell ReadFault → Type 0
HasReadCause before now (Ok cell) = ⊤
HasReadCause before now (Err Device) = Rose before now
HasReadCause before now (Err (BadCell bad)) = ⊤

-- what a buffer holds after a read of a cell in this block: none where the device failed
abbrev pub turned_last : ℕ → Result Cell ReadFault → Option ℕ
turned_last block (Ok cell) = Some block
turned_last block (Err Device) = None
turned_last block (Err (BadCell bad)) = Some block

-- a read of a cell by way of a buffer: at most one read of the device and no other call, and none where the buffer held the block
pub record Turns {D : Type 0} (counts : D → Counts) (before now : Blocks D) (buffer block : ℕ) (result : Result Cell ReadFault) : Type 0 where
  pub faults_stay : (counts before.cache.device).faults ≤ (counts now.cache.device).faults
  pub calm : ReadCalm (counts before.cache.device).faults (counts now.cache.device).faults result
  pub cause : HasReadCause (counts before.cache.device).faults (counts now.cache.device).faults result
  pub reads_stay : (counts before.cache.device).reads ≤ (counts now.cache.device).reads
  pub reads_rise : (counts now.cache.device).reads ≤ (counts before.cache.device).reads + 1
  pub writes_is : (counts now.cache.device).writes ≡ (counts before.cache.device).writes
  pub others_are : (counts now.cache.device).others ≡ (counts before.cache.device).others
  pub lasts_are : now.lasts ≡ slice_set before.lasts buffer (turned_last block result)
  pub same : last_in before.lasts buffer ≡ Some block → now ≡ before
  pub stays : Stays before now

-- a call that writes this block, where it writes at all: at most one write of the device and no other call, after which no buffer holds the block
pub record Writing {D K T E : Type 0} (counts : D → Counts) (kept : D → K) (wrote : Bool) (before now : Blocks D) (block : ℕ) (result : Result T E) : Type 0 where
  pub called : Called (counts before.cache.device) (counts now.cache.device) 0 1 0 result
  pub kept_is : kept now.cache.device ≡ kept before.cache.device
  pub lasts_are : now.lasts ≡ (if wrote then map (forgotten block) before.lasts else before.lasts)
  pub none : wrote ≡ false → now ≡ before
  pub stays : Stays before now

-- an answer that a read may give after its buffer was to be turned so: the device's fault exactly where that failed
abbrev pub IsReadAfter : {T E : Type 0} → Result T E → Result Cell ReadFault → Type 0
IsReadAfter (Ok value) answer = answer ≢ Err Device
IsReadAfter (Err fault) answer = answer ≡ Err Device

-- a call that turns a buffer leaves what the device tells and keeps, makes no call of it but reads, and has as many buffers
pub record OnlyTurns {D : Type 0} (d : device.Ghosts D) (before now : Blocks D) : Type 0 where
  pub bytes_stay : d.bytes now.cache.device ≡ d.bytes before.cache.device
  pub kept_is : d.kept now.cache.device ≡ d.kept before.cache.device
  pub others_are : (d.counts now.cache.device).others ≡ (d.counts before.cache.device).others
  pub as_many : length now.lasts ≡ length before.lasts
  pub stays : Stays before now
