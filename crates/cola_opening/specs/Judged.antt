-- When a file has a header, and why it has none; what reading the header answers.
use Rattle.std.specs.Prelude.{◌≡◌, ◌⊎◌, ℕ, ◌+◌, ◌*◌, ◌^◌, ◌<◌, ◌≤◌, true, false, List, length, take, Result, Ok, Err, IfSome, ⊤}
use Rattle.cola_outside.specs.Faults.{Rose}
use Rattle.cola_cell.specs.declared.format.Format.{Format}
use Rattle.cola_cell.specs.Format.{width}
use Rattle.cola_device.specs.declared.device.Device as device
use Rattle.cola_layout.specs.declared.header.Header.{Header}
use Rattle.cola_layout.specs.Fields.{fields_of}
use Rattle.cola_layout.specs.Header.{Fields, IsSpelling, IsNoSpelling}
use Rattle.cola_opening.specs.declared.fault.HeaderFault.{HeaderFault}
use Rattle.cola_opening.specs.declared.fault.HeaderFault.TheVariants.{NotStore, Small, Device}
use Rattle.cola_opening.specs.declared.fault.ClosedFault.{ClosedFault}
use Rattle.cola_opening.specs.declared.fault.ClosedFault.TheVariants as closed
use Rattle.cola_opening.specs.declared.reading.FoundHeader.{FoundHeader}
use Rattle.cola_opening.specs.Counted.{Spends}

-- the bytes of a file with this lowest level
abbrev pub file_size : Format → ℕ → ℕ
file_size format bottom = width format * 2 ^ (bottom + 4)

-- a file has this header, and all cells of its store
pub record HasHeader (header : Fields) (bytes : List ℕ) : Type 0 where
  pub spelled : IsSpelling header (take 512 bytes)
  pub whole : file_size header.format header.bottom ≤ length bytes

-- a file has no room for a header, or none for the cells of the store whose header it has
abbrev pub IsSmall : List ℕ → Type 0
IsSmall bytes = (length bytes < 512) ⊎ ((header : Fields) × (IsSpelling header (take 512 bytes) × (length bytes < file_size header.format header.bottom)))

-- a file has room for a header, but its first bytes are none
pub record IsNoStore (bytes : List ℕ) : Type 0 where
  pub long : 512 ≤ length bytes
  pub none : IsNoSpelling (take 512 bytes)

-- a file has this header and all cells of its store, which was closed
pub record IsClosedWith (header : Fields) (bytes : List ℕ) : Type 0 where
  pub has : HasHeader header bytes
  pub closed : header.closed ≡ true

-- a file has such a header
abbrev pub IsClosedFile : List ℕ → Type 0
IsClosedFile bytes = (header : Fields) × IsClosedWith header bytes

-- a file has a header and all cells of its store, which is in use
abbrev pub IsInUse : List ℕ → Type 0
IsInUse bytes = (header : Fields) × (HasHeader header bytes × (header.closed ≡ false))

-- these bytes spell the header that was found, and the size has room for all its cells
pub record IsSpelled (found : FoundHeader) (head : List ℕ) : Type 0 where
  pub spelled : IsSpelling (fields_of found.header) head
  pub whole : file_size found.header.geometry.format found.header.geometry.bottom ≤ found.size

-- a file has the header and the size that were found, and these bytes first
pub record IsFoundIn (found : FoundHeader) (head bytes : List ℕ) : Type 0 where
  pub has : HasHeader (fields_of found.header) bytes
  pub head_is : head ≡ take 512 bytes
  pub size_is : found.size ≡ length bytes

-- what the first bytes of a file of this size say: the header, where the file has all its cells, or why there is none
abbrev pub FirstBytesSay : ℕ → List ℕ → Result FoundHeader HeaderFault → Type 0
FirstBytesSay size head (Ok found) = IsSpelled found head × (found.size ≡ size)
FirstBytesSay size head (Err NotStore) = IsNoSpelling head
FirstBytesSay size head (Err Small) = (header : Fields) × (IsSpelling header head × (size < file_size header.format header.bottom))
FirstBytesSay size head (Err Device) = ⊥

module _ {D : Type 0} (d : device.Ghosts D) (before : D) where
  -- this was seen of a file, and holds where its bytes are told: they stay, so many reads and other calls of the device were
  -- made at most, and it met no fault
  pub record IsSeen (why : List ℕ → Type 0) (reads others : ℕ) (now : D) : Type 0 where
    pub why_is : IfSome (d.bytes before) why
    pub bytes_stay : d.bytes now ≡ d.bytes before
    pub spends : Spends (d.counts before) (d.counts now) reads 0 others
    pub no_fault : (d.counts now).faults ≡ (d.counts before).faults

  -- the device refused to tell its size, or to be read: it keeps its bytes
  pub record FailedReading (now : D) : Type 0 where
    pub cause : Rose (d.counts before).faults (d.counts now).faults
    pub bytes_stay : d.bytes now ≡ d.bytes before
    pub spends : Spends (d.counts before) (d.counts now) 1 0 1

  -- what reading the header answered, with its cause, where the bytes that were read are these
  abbrev pub FindsHeader : List ℕ → D → Result FoundHeader HeaderFault → Type 0
  FindsHeader head now (Ok found) = IsSeen (IsFoundIn found head) 1 1 now × IsSpelled found head
  FindsHeader head now (Err NotStore) = IsSeen IsNoStore 1 1 now
  FindsHeader head now (Err Small) = IsSeen IsSmall 1 1 now
  FindsHeader head now (Err Device) = FailedReading now

  -- what reading the header of a closed store answered, with its cause
  abbrev pub FindsClosed : D → Result Header ClosedFault → Type 0
  FindsClosed now (Ok header) = IsSeen (IsClosedWith (fields_of header)) 1 1 now × (header.closed ≡ true)
  FindsClosed now (Err closed.NotStore) = IsSeen IsNoStore 1 1 now
  FindsClosed now (Err closed.Small) = IsSeen IsSmall 1 1 now
  FindsClosed now (Err closed.NotClosed) = IsSeen IsInUse 1 1 now
  FindsClosed now (Err closed.Device) = FailedReading now

-- an answer that is this header, or that a device failed
abbrev pub IsHeaderOrFault : Fields → Result FoundHeader HeaderFault → Type 0
IsHeaderOrFault header (Ok found) = fields_of found.header ≡ header
IsHeaderOrFault header (Err NotStore) = ⊥
IsHeaderOrFault header (Err Small) = ⊥
IsHeaderOrFault header (Err Device) = ⊤
