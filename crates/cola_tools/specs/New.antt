-- A device over lent zero bytes, for a new file: what contracts see of it, and what each of its calls leaves.
use Rattle.std.specs.Prelude.{◌≡◌, ℕ, ◌+◌, ◌-◌, ◌≤◌, ◌<◌, nat_lt, Bool, true, false, if◌then◌else◌, List, length, take, drop, replicate}
use denote.RawPtr.{Ptr}
use Rattle.cola_device.specs.declared.counts.Counts.{Counts}
use Rattle.cola_device.specs.declared.memory.TheConstants.{SPOILED}
use Rattle.cola_device.specs.Bytes.{splice}
use Rattle.cola_device.specs.Counts.{one_more}

-- where the bytes lie and how many there are, the bytes, how many of them the file has, whether a layout was refused, and how
-- many faults were met and calls made
pub record New : Type 0 where
  pub at : Ptr
  pub len : ℕ
  pub bytes : List ℕ
  pub size : ℕ
  pub refused : Bool
  pub faults : ℕ
  pub reads : ℕ
  pub writes : ℕ
  pub others : ℕ

-- the bytes of the file: the first of those that were lent. After a refused layout they are one more than were lent, so that
-- whoever asked for a file knows that it has no room there
abbrev pub file_of : New → List ℕ
file_of device = if device.refused then replicate (length device.bytes + 1) SPOILED else take device.size device.bytes

-- all bytes behind the file are zero, and all where it was not written; there is no file where a layout was refused
pub record IsNew (device : New) : Type 0 where
  pub some : 0 < length device.bytes
  pub inside : device.size ≤ length device.bytes
  pub zero_behind : drop device.size device.bytes ≡ replicate (length device.bytes - device.size) 0
  pub unwritten : device.writes ≡ 0 → device.bytes ≡ replicate (length device.bytes) 0
  pub none_laid : device.refused ≡ true → device.size ≡ 0
  pub no_fault : device.refused ≡ false → device.faults ≡ 0
  pub met : device.refused ≡ true → 1 ≤ device.faults

-- no file yet, and no call was made
abbrev pub unlaid : Ptr → ℕ → List ℕ → New
unlaid at len bytes = record { at = at; len = len; bytes = bytes; size = 0; refused = false; faults = 0; reads = 0; writes = 0; others = 0 }

-- its counts
abbrev pub counts_of : New → Counts
counts_of device = record { faults = device.faults; reads = device.reads; writes = device.writes; others = device.others }

-- where the bytes lie, and how many there are: no call changes that
pub record Place : Type 0 where
  pub at : Ptr
  pub len : ℕ
  pub many : ℕ

abbrev pub place_of : New → Place
place_of device = record { at = device.at; len = device.len; many = length device.bytes }

-- after a call, which is a fault where a layout was refused
abbrev pub after_call : New → New
after_call device = record device { faults = (if device.refused then one_more device.faults else device.faults) }

-- after a call that neither reads nor writes
abbrev pub after_other : New → New
after_other device = record (after_call device) { others = one_more device.others }

-- after a layout: the file has so many bytes, or there are fewer and it is refused
abbrev pub after_layout : ℕ → New → New
after_layout size device =
    if nat_lt (length device.bytes) size then record device { refused = true; faults = one_more device.faults; others = one_more device.others }
    else record device { size = size; others = one_more device.others }

-- after a read
abbrev pub after_read : New → New
after_read device = record (after_call device) { reads = one_more device.reads }

-- after a write: these bytes stand in their place, unless a layout was refused
abbrev pub after_write : ℕ → List ℕ → New → New
after_write at from device =
    record (after_call device) {
      bytes = (if device.refused then device.bytes else splice device.bytes at from);
      writes = one_more device.writes;
    }
