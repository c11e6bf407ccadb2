-- What an upgrade answers, with the cause of each answer, and what both devices have then.
use Rattle.std.specs.Prelude.{◌≡◌, ◌⊎◌, ℕ, ◌+◌, ◌<◌, ◌≤◌, true, false, List, length, take, replicate, Result, Ok, Err, IfSome, IsSomeAnd, ⊤}
use Rattle.cola_outside.specs.Faults.{Rose}
use Rattle.cola_cell.specs.declared.format.Format.TheVariants.{One, Two}
use Rattle.cola_device.specs.declared.device.Device as device
use Rattle.cola_device.specs.Bytes.{IsEmpty}
use Rattle.cola_device.specs.Settling.{IsSettled}
use Rattle.cola_layout.specs.declared.header.Header.{Header}
use Rattle.cola_layout.specs.Fields.{fields_of}
use Rattle.cola_layout.specs.Header.{Fields, IsSpelling}
use Rattle.cola_opening.specs.Counted.{Spends}
use Rattle.cola_opening.specs.Judged.{HasHeader, IsSmall, IsNoStore}
use Rattle.cola_spec.specs.Map.{Map}
use Rattle.cola_image.specs.Standing.{HeaderStandsFor}
use Rattle.cola_wide.specs.declared.fault.UpgradeFault.{UpgradeFault}
use Rattle.cola_wide.specs.declared.fault.UpgradeFault.TheVariants.{Small, NotStore, Already, NotClosed, OutOfMemory, NotEmpty, Device, BadCell}
use Rattle.cola_wide.specs.Copied.{cells_of, block_cells, block_count, wide_size, IsBlockOf, AreSpelled, AreCopied, IsLowestBad, IsBegun, IsFilled, IsCopyOf}

-- a file has a header and all cells, and is in format Two
abbrev pub IsWide : List ℕ → Type 0
IsWide bytes = (header : Fields) × (HasHeader header bytes × (header.format ≡ Two))

-- a file has a header and all cells, is in format One, and its store is in use
abbrev pub IsInUse : List ℕ → Type 0
IsInUse bytes = (header : Fields) × (HasHeader header bytes × ((header.format ≡ One) × (header.closed ≡ false)))

-- a file has this header and all cells, is in format One, and its store was closed
pub record IsClosedFile (header : Fields) (bytes : List ℕ) : Type 0 where
  pub has : HasHeader header bytes
  pub narrow : header.format ≡ One
  pub closed : header.closed ≡ true

-- how many reads an upgrade makes at most by a header: its first 512 bytes, each block, and the first block once more
abbrev pub upgrade_reads : Fields → ℕ
upgrade_reads header = block_count header + 2

-- the other calls of the device that is read: it is asked for its size once
abbrev pub reading_others : ℕ
reading_others = 1

-- the other calls of the device that is written, before its blocks are: it is asked for its size once, and laid out once
abbrev pub laying_others : ℕ
laying_others = 2

-- its other calls in all: behind those it settles once
abbrev pub writing_others : ℕ
writing_others = laying_others + 1

module _ {D : Type 0} (d : device.Ghosts D) (before now : D) where
  -- the device that is read has this, where it tells its bytes, was called at most so many times, and met no fault
  pub record IsFound (why : List ℕ → Type 0) (reads others : ℕ) : Type 0 where
    pub why_is : IfSome (d.bytes before) why
    pub counts : Spends (d.counts before) (d.counts now) reads 0 others
    pub no_fault : (d.counts now).faults ≡ (d.counts before).faults

  -- it failed in one of at most so many reads and other calls
  pub record FailedReading (reads others : ℕ) : Type 0 where
    pub cause : Rose (d.counts before).faults (d.counts now).faults
    pub counts : Spends (d.counts before) (d.counts now) reads 0 others

  -- what looking for the header of a closed file of format One answered, where the bytes that were read are these
  abbrev pub FindsClosed : List ℕ → Result Header UpgradeFault → Type 0
  FindsClosed head (Ok header) =
      IsFound (λ bytes. IsClosedFile (fields_of header) bytes × (head ≡ take 512 bytes)) 1 reading_others
      × (IsSpelling (fields_of header) head × ((header.geometry.format ≡ One) × (header.closed ≡ true)))
  FindsClosed head (Err Small) = IsFound IsSmall 1 reading_others
  FindsClosed head (Err NotStore) = IsFound IsNoStore 1 reading_others
  FindsClosed head (Err Already) = IsFound IsWide 1 reading_others
  FindsClosed head (Err NotClosed) = IsFound IsInUse 1 reading_others
  FindsClosed head (Err OutOfMemory) = ⊥
  FindsClosed head (Err NotEmpty) = ⊥
  FindsClosed head (Err Device) = FailedReading 1 reading_others
  FindsClosed head (Err (BadCell number)) = ⊥

  -- what reading a block whose first cell has this number, and copying its cells, answered
  abbrev pub LoadsBlock : Fields → ℕ → List ℕ → Result (Unit {0}) UpgradeFault → Type 0
  LoadsBlock header first wide (Ok _) = IsFound (λ old. IsBlockOf header first old wide) 1 0
  LoadsBlock header first wide (Err Small) = ⊥
  LoadsBlock header first wide (Err NotStore) = ⊥
  LoadsBlock header first wide (Err Already) = ⊥
  LoadsBlock header first wide (Err NotClosed) = ⊥
  LoadsBlock header first wide (Err OutOfMemory) = ⊥
  LoadsBlock header first wide (Err NotEmpty) = ⊥
  LoadsBlock header first wide (Err Device) = FailedReading 1 0
  LoadsBlock header first wide (Err (BadCell number)) = IsFound (IsLowestBad header first number) 1 0

module _ {D E : Type 0} (d : device.Ghosts D) (e : device.Ghosts E) (header : Fields) (from from_now : D) (to to_now : E) where
  -- blocks are copied, so many: their cells of runs, from one number up to another, are spelled, and behind the first block
  -- all cells up to there are copied; no fault was met, and each device was called for its blocks alone
  pub record BlocksAreCopied (low high blocks : ℕ) : Type 0 where
    pub source : IsFound d from from_now (AreSpelled header low high) blocks 0
    pub copied : IfSome (d.bytes from) (λ old. IfSome (e.bytes to_now) (AreCopied header (block_cells header) high old))
    pub begun : IfSome (e.bytes to_now) (IsBegun header)
    pub counts : Spends (e.counts to) (e.counts to_now) 0 blocks 0
    pub no_fault : (e.counts to_now).faults ≡ (e.counts to).faults

  -- a device failed before the last write, so the copy has no header. So many reads and other calls were made of the one
  -- device, and so many writes and other calls of the other, at most
  pub record FailedCopying (reads asks writes others : ℕ) : Type 0 where
    pub cause : Rose (d.counts from).faults (d.counts from_now).faults ⊎ Rose (e.counts to).faults (e.counts to_now).faults
    pub begun : IfSome (e.bytes to_now) (IsBegun header)
    pub reads_are : Spends (d.counts from) (d.counts from_now) reads 0 asks
    pub writes_are : Spends (e.counts to) (e.counts to_now) 0 writes others

  -- the device that is written failed in the last write, or as it settled: all behind the first block is copied
  pub record FailedLast (reads asks writes others : ℕ) : Type 0 where
    pub cause : Rose (e.counts to).faults (e.counts to_now).faults
    pub source : IsFound d from from_now (AreSpelled header 0 (cells_of header)) reads asks
    pub size : IfSome (e.bytes to_now) (λ new. length new ≡ wide_size header)
    pub copied : IfSome (d.bytes from) (λ old. IfSome (e.bytes to_now) (AreCopied header (block_cells header) (cells_of header) old))
    pub writes_are : Spends (e.counts to) (e.counts to_now) 0 writes others

  -- this cell is the lowest of the runs, from a number on, that is no spelling; the copy has no header, and no fault was met
  pub record MeetsBadCell (low number reads asks writes others : ℕ) : Type 0 where
    pub source : IsFound d from from_now (IsLowestBad header low number) reads asks
    pub begun : IfSome (e.bytes to_now) (IsBegun header)
    pub writes_are : Spends (e.counts to) (e.counts to_now) 0 writes others
    pub no_fault : (e.counts to_now).faults ≡ (e.counts to).faults

  -- all is copied, these are the first bytes of the copy, and its device settled with it
  pub record AllIsCopied (head : List ℕ) (reads asks writes others : ℕ) : Type 0 where
    pub source : IsFound d from from_now (AreSpelled header 0 (cells_of header)) reads asks
    pub size : IfSome (e.bytes to_now) (λ new. length new ≡ wide_size header)
    pub filled : IfSome (d.bytes from) (λ old. IfSome (e.bytes to_now) (IsFilled header head old))
    pub settled : IsSettled e to_now
    pub writes_are : Spends (e.counts to) (e.counts to_now) 0 writes others
    pub no_fault : (e.counts to_now).faults ≡ (e.counts to).faults

  -- what copying blocks answered, from one number up to another
  abbrev pub CopiesBlocks : ℕ → ℕ → ℕ → Result (Unit {0}) UpgradeFault → Type 0
  CopiesBlocks low high blocks (Ok _) = BlocksAreCopied low high blocks
  CopiesBlocks low high blocks (Err Small) = ⊥
  CopiesBlocks low high blocks (Err NotStore) = ⊥
  CopiesBlocks low high blocks (Err Already) = ⊥
  CopiesBlocks low high blocks (Err NotClosed) = ⊥
  CopiesBlocks low high blocks (Err OutOfMemory) = ⊥
  CopiesBlocks low high blocks (Err NotEmpty) = ⊥
  CopiesBlocks low high blocks (Err Device) = FailedCopying blocks 0 blocks 0
  CopiesBlocks low high blocks (Err (BadCell number)) = MeetsBadCell low number blocks 0 blocks 0

  -- what copying the last blocks and then the first, with the header, answered: one other call is made behind the last
  -- write, and no more than so many before it
  abbrev pub CopiesAll : List ℕ → ℕ → ℕ → ℕ → ℕ → Result (Unit {0}) UpgradeFault → Type 0
  CopiesAll head reads asks writes others (Ok _) = AllIsCopied head reads asks writes (others + 1)
  CopiesAll head reads asks writes others (Err Small) = ⊥
  CopiesAll head reads asks writes others (Err NotStore) = ⊥
  CopiesAll head reads asks writes others (Err Already) = ⊥
  CopiesAll head reads asks writes others (Err NotClosed) = ⊥
  CopiesAll head reads asks writes others (Err OutOfMemory) = ⊥
  CopiesAll head reads asks writes others (Err NotEmpty) = ⊥
  CopiesAll head reads asks writes others (Err Device) = FailedCopying reads asks writes others ⊎ FailedLast reads asks writes (others + 1)
  CopiesAll head reads asks writes others (Err (BadCell number)) = MeetsBadCell 0 number reads asks writes others

module _ {E : Type 0} (e : device.Ghosts E) (size : ℕ) (before now : E) where
  -- the device was empty, and has so many zero bytes
  pub record IsLaidOut : Type 0 where
    pub was_empty : IsEmpty (e.bytes before)
    pub zero : IfSome (e.bytes now) (λ new. new ≡ replicate size 0)
    pub counts : Spends (e.counts before) (e.counts now) 0 0 laying_others
    pub no_fault : (e.counts now).faults ≡ (e.counts before).faults

  -- the device had bytes; they stay, and it met no fault, read and wrote nothing, and was asked for its size alone
  pub record HadBytes : Type 0 where
    pub some : IfSome (e.bytes before) (λ bytes. 0 < length bytes)
    pub bytes_stay : e.bytes now ≡ e.bytes before
    pub counts : Spends (e.counts before) (e.counts now) 0 0 1
    pub no_fault : (e.counts now).faults ≡ (e.counts before).faults

  -- the device failed: as its size was asked, and its bytes stay; or as it was laid out, and it has at most so many bytes
  pub record FailedLayingOut : Type 0 where
    pub cause : Rose (e.counts before).faults (e.counts now).faults
    pub left : (e.bytes now ≡ e.bytes before) ⊎ (IsEmpty (e.bytes before) × IfSome (e.bytes now) (λ new. length new ≤ size))
    pub counts : Spends (e.counts before) (e.counts now) 0 0 laying_others

  -- what laying out answered
  abbrev pub LaysOut : Result (Unit {0}) UpgradeFault → Type 0
  LaysOut (Ok _) = IsLaidOut
  LaysOut (Err Small) = ⊥
  LaysOut (Err NotStore) = ⊥
  LaysOut (Err Already) = ⊥
  LaysOut (Err NotClosed) = ⊥
  LaysOut (Err OutOfMemory) = ⊥
  LaysOut (Err NotEmpty) = HadBytes
  LaysOut (Err Device) = FailedLayingOut
  LaysOut (Err (BadCell number)) = ⊥

module _ {D E : Type 0} (d : device.Ghosts D) (e : device.Ghosts E) (from from_now : D) (to to_now : E) where
  -- the file is refused for this reason, and the other device is as it was: it was not called
  pub record IsRefused (why : List ℕ → Type 0) : Type 0 where
    pub source : IsFound d from from_now why 1 reading_others
    pub untouched : to_now ≡ to

  -- the device failed before the header was read
  pub record FailedAtHeader : Type 0 where
    pub source : FailedReading d from from_now 1 reading_others
    pub untouched : to_now ≡ to

  -- the file can be copied, but the other device has bytes
  pub record IsNotEmpty (header : Fields) : Type 0 where
    pub source : IsFound d from from_now (IsClosedFile header) 1 reading_others
    pub had : HadBytes e (wide_size header) to to_now

  -- the other device failed as its size was asked, or as it was laid out
  pub record FailedAtLayout (header : Fields) : Type 0 where
    pub source : IsFound d from from_now (IsClosedFile header) 1 reading_others
    pub failed : FailedLayingOut e (wide_size header) to to_now

  -- the file is copied to a device that was empty
  pub record WasBegun (header : Fields) (copy : Type 0) : Type 0 where
    pub was : IfSome (d.bytes from) (IsClosedFile header)
    pub was_empty : IsEmpty (e.bytes to)
    pub copy_is : copy

  -- a device failed
  abbrev pub DeviceFailed : Type 0
  DeviceFailed =
      FailedAtHeader
      ⊎ ((header : Header)
      × (FailedAtLayout (fields_of header)
      ⊎ (WasBegun (fields_of header)
      (FailedCopying d e (fields_of header) from from_now to to_now (upgrade_reads (fields_of header)) reading_others (block_count (fields_of header)) laying_others)
      ⊎ WasBegun (fields_of header)
      (FailedLast d e (fields_of header) from from_now to to_now (upgrade_reads (fields_of header)) reading_others (block_count (fields_of header)) writing_others))))

  -- the copy is whole, its device settled with it, and no fault was met
  pub record IsWhole (header : Fields) : Type 0 where
    pub source : IsFound d from from_now (AreSpelled header 0 (cells_of header)) (upgrade_reads header) reading_others
    pub size : IfSome (e.bytes to_now) (λ new. length new ≡ wide_size header)
    pub copy : IfSome (d.bytes from) (λ old. IfSome (e.bytes to_now) (IsCopyOf header old))
    pub settled : IsSettled e to_now
    pub writes_are : Spends (e.counts to) (e.counts to_now) 0 (block_count header) writing_others
    pub no_fault : (e.counts to_now).faults ≡ (e.counts to).faults

  -- what an upgrade answered, with its cause, and what both devices have
  abbrev pub Upgrades : Result (Unit {0}) UpgradeFault → Type 0
  Upgrades (Ok _) = (header : Header) × WasBegun (fields_of header) (IsWhole (fields_of header))
  Upgrades (Err Small) = IsRefused IsSmall
  Upgrades (Err NotStore) = IsRefused IsNoStore
  Upgrades (Err Already) = IsRefused IsWide
  Upgrades (Err NotClosed) = IsRefused IsInUse
  Upgrades (Err OutOfMemory) = (header : Header) × IsRefused (IsClosedFile (fields_of header))
  Upgrades (Err NotEmpty) = (header : Header) × IsNotEmpty (fields_of header)
  Upgrades (Err Device) = DeviceFailed
  Upgrades (Err (BadCell number)) =
      (header : Header)
      × WasBegun (fields_of header)
      (MeetsBadCell d e (fields_of header) from from_now to to_now 0 number (upgrade_reads (fields_of header)) reading_others (block_count (fields_of header)) laying_others)

  -- the file stands for a map and is of format One, the other device tells that it is empty, and no fault was met
  pub record CanBeUpgraded (m : Map) : Type 0 where
    pub stands : IsSomeAnd (d.bytes from) (λ bytes. (header : Fields) × (HeaderStandsFor header bytes m × (header.format ≡ One)))
    pub empty : IsSomeAnd (e.bytes to) (λ bytes. length bytes ≡ 0)
    pub calm : Rose (d.counts from).faults (d.counts from_now).faults → ⊥
    pub other_calm : Rose (e.counts to).faults (e.counts to_now).faults → ⊥

-- an answer that says that all is done, or that memory is wanting
abbrev pub IsDoneForMemory : Result (Unit {0}) UpgradeFault → Type 0
IsDoneForMemory (Ok _) = ⊤
IsDoneForMemory (Err Small) = ⊥
IsDoneForMemory (Err NotStore) = ⊥
IsDoneForMemory (Err Already) = ⊥
IsDoneForMemory (Err NotClosed) = ⊥
IsDoneForMemory (Err OutOfMemory) = ⊤
IsDoneForMemory (Err NotEmpty) = ⊥
IsDoneForMemory (Err Device) = ⊥
IsDoneForMemory (Err (BadCell number)) = ⊥
