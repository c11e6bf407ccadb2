-- How the file of a store is opened: what each answer says, and what it leaves.
use Rattle.std.specs.Prelude.{◌≡◌, ◌⊎◌, ℕ, ◌+◌, true, List, Result, Ok, Err, IfSome}
use Rattle.cola_outside.specs.Faults.{Rose}
use Rattle.cola_outside.specs.Told.{Both}
use Rattle.cola_device.specs.declared.device.Device as device
use Rattle.cola_device.specs.Settling.{IsSettled}
use Rattle.cola_layout.specs.declared.header.Header.{Header}
use Rattle.cola_layout.specs.Fields.{fields_of}
use Rattle.cola_opening.specs.Counted.{Spends}
use Rattle.cola_opening.specs.Judged.{HasHeader, IsSmall, IsNoStore, IsSeen, IsInUse}
use Rattle.cola_layout.specs.Cells.{file_spots}
use Rattle.cola_image.specs.Standing.{with_state}
use Rattle.cola_run.specs.Store.{Store, held_of, device_of}
use Rattle.cola_run.specs.Saving.{AreFileSpots, AreFrontRunsSpelled, IsLowestBad, IsLoaded}
use Rattle.cola_store.specs.declared.fault.OpenFault.{OpenFault}
use Rattle.cola_store.specs.declared.fault.OpenFault.TheVariants.{NotStore, NotClosed, Small, Device, OutOfMemory, BadCell}
use Rattle.cola_store.specs.Runs.{HasShadowsOf, StandsForFile}
use Rattle.cola_store.specs.Store.{IsMadeAfter}

-- the bytes are those before, with any state byte
abbrev pub ButState : (old new : List ℕ) → Type 0
ButState old new = (state : ℕ) × (new ≡ with_state state old)

-- they are those before, with the state byte of a store in use
abbrev pub InUse : (old new : List ℕ) → Type 0
InUse old new = new ≡ with_state 1 old

-- every cell of the runs of a file's first two blocks is spelled
abbrev pub IsFrontSpelled : Header → List ℕ → Type 0
IsFrontSpelled header bytes = AreFrontRunsSpelled header (file_spots header.geometry.format bytes)

-- this cell is the lowest of these runs that is not spelled
abbrev pub HasLowestBad : Header → ℕ → List ℕ → Type 0
HasLowestBad header number bytes = IsLowestBad header (file_spots header.geometry.format bytes) number

-- a file has this header and all cells, and its store was closed
pub record WasClosed (header : Header) (bytes : List ℕ) : Type 0 where
  pub has : HasHeader (fields_of header) bytes
  pub closed : header.closed ≡ true

-- a file of a closed store with this header, of which every cell of the runs of the first two blocks is spelled
pub record IsReady (header : Header) (bytes : List ℕ) : Type 0 where
  pub was : WasClosed header bytes
  pub spelled : IsFrontSpelled header bytes

-- such a file, of which this cell is the lowest of these runs that is not spelled
pub record HasBadCell (header : Header) (number : ℕ) (bytes : List ℕ) : Type 0 where
  pub was : WasClosed header bytes
  pub bad : HasLowestBad header number bytes

-- how many reads an opening makes at most by a header: three, and one for each level
abbrev pub opening_reads : Header → ℕ
opening_reads header = header.geometry.bottom + 4

module _ {D : Type 0} (d : device.Ghosts D) (before : D) where
  -- the device failed before the header was read: it keeps its bytes
  pub record FailedAtHeader (now : D) : Type 0 where
    pub bytes_stay : d.bytes now ≡ d.bytes before
    pub spends : Spends (d.counts before) (d.counts now) 1 0 1

  -- it failed while the cells were loaded: it keeps its bytes
  pub record FailedAtCells (now : D) : Type 0 where
    pub header : Header
    pub was : IfSome (d.bytes before) (WasClosed header)
    pub bytes_stay : d.bytes now ≡ d.bytes before
    pub spends : Spends (d.counts before) (d.counts now) (opening_reads header) 0 1

  -- it failed while the store was marked as in use: it has any state byte, and keeps all others
  pub record FailedAtMark (now : D) : Type 0 where
    pub header : Header
    pub was : IfSome (d.bytes before) (IsReady header)
    pub left : Both (d.bytes before) (d.bytes now) ButState
    pub spends : Spends (d.counts before) (d.counts now) (opening_reads header) 1 2

  -- the device failed
  pub record DeviceFailed (now : D) : Type 0 where
    pub cause : Rose (d.counts before).faults (d.counts now).faults
    pub at : FailedAtHeader now ⊎ (FailedAtCells now ⊎ FailedAtMark now)

  -- the store is open: its file was closed, has this header and its state byte says now that it is in use, with which the
  -- device settled; the cells are those of the file, and stand for the map that this stood for
  pub record IsOpened (cache : ℕ) (store : Store D) (header : Header) : Type 0 where
    pub was : IfSome (d.bytes before) (IsReady header)
    pub closed : header.closed ≡ true
    pub marked : Both (d.bytes before) (d.bytes (device_of store)) InUse
    pub settled : IsSettled d (device_of store)
    pub geometry : store.geometry ≡ header.geometry
    pub loaded : IsLoaded header (held_of d.bytes store) (d.bytes before)
    pub stands : IfSome (d.bytes before) (StandsForFile header (held_of d.bytes store))
    pub blocks : store.buffers.cache.blocks ≡ cache
    pub made : IsMadeAfter (d.counts before) (held_of d.bytes store)
    pub no_ticks : store.ticked ≡ 0
    pub spends : Spends (d.counts before) (d.counts (device_of store)) (opening_reads header) 1 2
    pub no_fault : (d.counts (device_of store)).faults ≡ (d.counts before).faults

  -- what an opening answered, with its cause, and what it left
  abbrev pub Opens : ℕ → Result (Store D × Header) (D × OpenFault) → Type 0
  Opens cache (Ok (store, header)) = IsOpened cache store header
  Opens cache (Err (now, NotStore)) = IsSeen d before IsNoStore 1 1 now
  Opens cache (Err (now, NotClosed)) = IsSeen d before IsInUse 1 1 now
  Opens cache (Err (now, Small)) = IsSeen d before IsSmall 1 1 now
  Opens cache (Err (now, Device)) = DeviceFailed now
  Opens cache (Err (now, OutOfMemory)) = IsSeen d before (λ bytes. (header : Header) × WasClosed header bytes) 1 1 now
  Opens cache (Err (now, BadCell number)) = (header : Header) × IsSeen d before (HasBadCell header number) (opening_reads header) 1 now

-- an answer without its last part, the room of a chain
abbrev pub without_room : {A B C E : Type 0} → Result (A × B × C) E → Result (A × B) E
without_room (Ok (a, b, c)) = Ok (a, b)
without_room (Err e) = Err e

-- the device after an opening
abbrev pub device_after : {D : Type 0} → Result (Store D × Header) (D × OpenFault) → D
device_after (Ok (store, header)) = device_of store
device_after (Err (now, fault)) = now

module _ {D : Type 0} (d : device.Ghosts D) (before now : D) where
  -- what looking for the header of a closed store answered
  abbrev pub FindsClosed : Result Header OpenFault → Type 0
  FindsClosed (Ok header) = IsSeen d before (WasClosed header) 1 1 now × (header.closed ≡ true)
  FindsClosed (Err NotStore) = IsSeen d before IsNoStore 1 1 now
  FindsClosed (Err NotClosed) = IsSeen d before IsInUse 1 1 now
  FindsClosed (Err Small) = IsSeen d before IsSmall 1 1 now
  FindsClosed (Err Device) = Rose (d.counts before).faults (d.counts now).faults × FailedAtHeader d before now
  FindsClosed (Err OutOfMemory) = ⊥
  FindsClosed (Err (BadCell number)) = ⊥

module _ {D : Type 0} (d : device.Ghosts D) (header : Header) (before now : Store D) where
  -- at most two reads and one for each level, and so many writes and other calls
  abbrev pub SpendsLoading : (writes others : ℕ) → Type 0
  SpendsLoading = Spends (d.counts (device_of before)) (d.counts (device_of now)) (header.geometry.bottom + 3)

  -- the cells of the file are loaded by the header, and its state byte says that the store is in use, with which the device settled
  pub record IsMarked : Type 0 where
    pub spelled : IfSome (d.bytes (device_of before)) (IsFrontSpelled header)
    pub marked : Both (d.bytes (device_of before)) (d.bytes (device_of now)) InUse
    pub settled : IsSettled d (device_of now)
    pub geometry : now.geometry ≡ header.geometry
    pub spots : IfSome (d.bytes (device_of before))
        (AreFileSpots header.geometry (held_of d.bytes now).spots)
    pub shadows : HasShadowsOf header (held_of d.bytes now)
    pub blocks : now.buffers.cache.blocks ≡ before.buffers.cache.blocks
    pub made : (held_of d.bytes now).fixed ≡ (held_of d.bytes before).fixed
    pub ticks : now.ticked ≡ before.ticked
    pub spends : SpendsLoading 1 1
    pub no_fault : (d.counts (device_of now)).faults ≡ (d.counts (device_of before)).faults

  -- the device failed in one of the reads, and keeps its bytes
  pub record FailedReading : Type 0 where
    pub bytes_stay : d.bytes (device_of now) ≡ d.bytes (device_of before)
    pub spends : SpendsLoading 0 0

  -- the device failed in the write of the state byte, or as it settled
  pub record FailedMarking : Type 0 where
    pub spelled : IfSome (d.bytes (device_of before)) (IsFrontSpelled header)
    pub left : Both (d.bytes (device_of before)) (d.bytes (device_of now)) ButState
    pub spends : SpendsLoading 1 1

  -- what loading and marking answered
  abbrev pub LoadsAndMarks : Result (Unit {0}) OpenFault → Type 0
  LoadsAndMarks (Ok _) = IsMarked
  LoadsAndMarks (Err NotStore) = ⊥
  LoadsAndMarks (Err NotClosed) = ⊥
  LoadsAndMarks (Err Small) = ⊥
  LoadsAndMarks (Err Device) =
      Rose (d.counts (device_of before)).faults (d.counts (device_of now)).faults × (FailedReading ⊎ FailedMarking)
  LoadsAndMarks (Err OutOfMemory) = ⊥
  LoadsAndMarks (Err (BadCell number)) =
      IsSeen d (device_of before) (HasLowestBad header number) (header.geometry.bottom + 3) 0 (device_of now)
