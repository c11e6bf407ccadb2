-- The file of a new store, and what making one answers and leaves.
use Rattle.std.specs.Prelude.{◌≡◌, ℕ, ◌+◌, ◌-◌, ◌<◌, ◌≤◌, true, List, length, drop, replicate, Result, Ok, Err, IfSome}
use Rattle.cola_outside.specs.Faults.{Rose}
use Rattle.cola_outside.specs.Told.{Both}
use Rattle.cola_cell.specs.declared.format.Format.{Format}
use Rattle.cola_device.specs.declared.counts.Counts.{Counts}
use Rattle.cola_device.specs.declared.device.Device as device
use Rattle.cola_device.specs.Bytes.{IsEmpty}
use Rattle.cola_device.specs.Settling.{IsSettled}
use Rattle.cola_layout.specs.declared.fault.LayoutFault.TheVariants as layout
use Rattle.cola_layout.specs.Geometry.{AreKeys, IsBottom, IsBlock, Refuses}
use Rattle.cola_layout.specs.Header.{Fields}
use Rattle.cola_layout.specs.Marks.{no_marks}
use Rattle.cola_opening.specs.Judged.{file_size}
use Rattle.cola_spec.specs.Map.{empty_map}
use Rattle.cola_image.specs.Standing.{HeaderStandsFor}
use Rattle.cola_store.specs.declared.fault.CreateFault.{CreateFault}
use Rattle.cola_store.specs.declared.fault.CreateFault.TheVariants.{Keys, Block, NotEmpty, Device}

-- the header of a closed store with no keys
abbrev pub new_header : Format → ℕ → ℕ → ℕ → Fields
new_header format keys block_exp bottom = record {
  format = format;
  block_exp = block_exp;
  bottom = bottom;
  closed = true;
  keys = keys;
  count = 0;
  clock = 0;
  last = 0;
  levels = replicate (bottom + 1) no_marks;
}

-- these bytes are a new file: it has the size of its cells, by that header it stands for the empty map, and all behind the
-- header is zero
pub record IsNewFile (format : Format) (keys block_exp bottom : ℕ) (bytes : List ℕ) : Type 0 where
  pub size : length bytes ≡ file_size format bottom
  pub stands : HeaderStandsFor (new_header format keys block_exp bottom) bytes empty_map
  pub zero_behind : drop 512 bytes ≡ replicate (file_size format bottom - 512) 0

-- there may be a store for so many keys with these blocks, and this is its lowest level
pub record Suits (keys block_exp bottom : ℕ) : Type 0 where
  pub keys_in_range : AreKeys keys
  pub bottom_is : IsBottom keys bottom
  pub block_fits : IsBlock block_exp bottom

-- bytes that were there stay, and where there were none there are at most so many
pub record PartlyMade (size : ℕ) (before now : List ℕ) : Type 0 where
  pub others_stay : 0 < length before → now ≡ before
  pub at_most : length before ≡ 0 → length now ≤ size

-- what making a file does to the counts at most: no read, one write and three other calls, and no count falls
pub record CountsOneWrite (before now : Counts) : Type 0 where
  pub faults_stay : before.faults ≤ now.faults
  pub reads_stay : now.reads ≡ before.reads
  pub writes_stay : before.writes ≤ now.writes
  pub writes_rise : now.writes ≤ before.writes + 1
  pub others_stay : before.others ≤ now.others
  pub others_rise : now.others ≤ before.others + 3

module _ {D : Type 0} (d : device.Ghosts D) (format : Format) (keys block_exp : ℕ) (before now : D) where
  -- the device was empty and has a new file, where it tells its bytes, settled with it, and met no fault
  pub record Made : Type 0 where
    pub bottom : ℕ
    pub suits : Suits keys block_exp bottom
    pub was_empty : IsEmpty (d.bytes before)
    pub file : IfSome (d.bytes now) (IsNewFile format keys block_exp bottom)
    pub settled : IsSettled d now
    pub no_fault : (d.counts now).faults ≡ (d.counts before).faults

  -- the device had bytes, where it tells them: they stay, and it met no fault and wrote nothing
  pub record WasNotEmpty : Type 0 where
    pub bottom : ℕ
    pub suits : Suits keys block_exp bottom
    pub some : IfSome (d.bytes before) (λ bytes. 0 < length bytes)
    pub bytes_stay : d.bytes now ≡ d.bytes before
    pub no_fault : (d.counts now).faults ≡ (d.counts before).faults
    pub writes_stay : (d.counts now).writes ≡ (d.counts before).writes

  -- the device met a fault, and may have any part of a file where it was empty
  pub record DeviceFailed : Type 0 where
    pub bottom : ℕ
    pub suits : Suits keys block_exp bottom
    pub cause : Rose (d.counts before).faults (d.counts now).faults
    pub left : Both (d.bytes before) (d.bytes now) (PartlyMade (file_size format bottom))

  -- why no file can be made of these numbers, and the device is as it was
  pub record HasNoSizes (refused : Type 0) : Type 0 where
    pub why : refused
    pub untouched : now ≡ before

  -- what making a file answered, with its cause, and what it left
  abbrev pub Created : Result (Unit {0}) CreateFault → Type 0
  Created (Ok _) = Made
  Created (Err Keys) = HasNoSizes (Refuses keys block_exp layout.Keys)
  Created (Err Block) = HasNoSizes (Refuses keys block_exp layout.Block)
  Created (Err NotEmpty) = WasNotEmpty
  Created (Err Device) = DeviceFailed
