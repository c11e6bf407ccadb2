-- What a rebuild answers, with the cause of each answer, and what both devices have then.
use Rattle.std.specs.Prelude.{◌≡◌, ◌≢◌, ◌⊎◌, ℕ, ◌+◌, ◌≤◌, max, List, [], ◌∷◌, length, take, drop, replicate, Option, Some, None, Result, Ok, Err, IfSome, IsSomeAnd}
use Rattle.cola_outside.specs.Faults.{Rose}
use Rattle.cola_outside.specs.Told.{Both}
use Rattle.cola_device.specs.declared.device.Device as device
use Rattle.cola_device.specs.declared.device.DeviceFault.{DeviceFault}
use Rattle.cola_device.specs.Bytes.{part, IsEmpty, HasSize}
use Rattle.cola_device.specs.Settling.{IsSettled}
use Rattle.cola_opening.specs.Counted.{Spends}
use Rattle.cola_opening.specs.Judged.{IsSmall, IsNoStore, IsSeen, FailedReading, IsClosedFile, IsInUse}
use Rattle.cola_mirror.specs.declared.fault.RebuildFault.{RebuildFault}
use Rattle.cola_mirror.specs.declared.fault.RebuildFault.TheVariants.{Small, NotStore, NotClosed, Other, Device}
use Rattle.cola_mirror.specs.Differ.{pieces_of, IfBoth}

-- there are as many bytes, and those before a place are the same
pub record IsSameBelow (place : ℕ) (before now : List ℕ) : Type 0 where
  pub many : length now ≡ length before
  pub same : take place now ≡ take place before

-- the first 512 bytes of a device before its header is written: zero where it was empty, else those that it had
abbrev pub first_bytes : List ℕ → List ℕ
first_bytes [] = replicate 512 0
first_bytes (byte ∷ bytes) = take 512 (byte ∷ bytes)

-- how often a device is called until it is ready for pieces: for its size, and where it may be empty for its layout
abbrev pub ready_calls : Option (List ℕ) → ℕ
ready_calls None = 2
ready_calls (Some []) = 2
ready_calls (Some (byte ∷ bytes)) = 1

-- a device has so many bytes, and no new header yet
pub record IsBegun (size : ℕ) (before now : List ℕ) : Type 0 where
  pub many : length now ≡ size
  pub head : take 512 now ≡ first_bytes before

-- Steps

module _ {D E : Type 0} (d : device.Ghosts D) (e : device.Ghosts E) (from from_now : D) (to to_now : E) where
  -- the one device was read at most so often, and keeps its bytes; the other was written at most so often
  pub record OnlyMoves (pieces : ℕ) : Type 0 where
    pub bytes_stay : d.bytes from_now ≡ d.bytes from
    pub kept : d.kept from_now ≡ d.kept from
    pub spends : Spends (d.counts from) (d.counts from_now) pieces 0 0
    pub other_kept : e.kept to_now ≡ e.kept to
    pub other_spends : Spends (e.counts to) (e.counts to_now) 0 pieces 0

  -- so many bytes from a place on are the same, where both are told, and no fault was met
  pub record IsMoved (at count : ℕ) : Type 0 where
    pub same : IfBoth (d.bytes from) (e.bytes to_now) (λ old new. part new at count ≡ part old at count)
    pub no_fault : (d.counts from_now).faults ≡ (d.counts from).faults
    pub other_no_fault : (e.counts to_now).faults ≡ (e.counts to).faults

  -- what copying so many bytes from a place on answered
  abbrev pub Moves : ℕ → ℕ → Result (Unit {0}) DeviceFault → Type 0
  Moves at count (Ok _) = IsMoved at count
  Moves at count (Err _) = Rose (d.counts from).faults (d.counts from_now).faults ⊎ Rose (e.counts to).faults (e.counts to_now).faults

module _ {E : Type 0} (e : device.Ghosts E) (size : ℕ) (before now : E) where
  -- the device was empty and was laid out, or had so many bytes already
  pub record IsReady : Type 0 where
    pub begun : Both (e.bytes before) (e.bytes now) (IsBegun size)
    pub was : IfSome (e.bytes before) (λ bytes. (length bytes ≡ 0) ⊎ (length bytes ≡ size))
    pub kept : e.kept now ≡ e.kept before
    pub spends : Spends (e.counts before) (e.counts now) 0 0 (ready_calls (e.bytes before))
    pub no_fault : (e.counts now).faults ≡ (e.counts before).faults

  -- the device has another number of bytes; they stay, and it was asked for its size alone
  pub record HasOthers (many : ℕ) : Type 0 where
    pub many_is : HasSize (e.bytes before) many
    pub some : many ≢ 0
    pub other : many ≢ size
    pub bytes_stay : e.bytes now ≡ e.bytes before
    pub kept : e.kept now ≡ e.kept before
    pub spends : Spends (e.counts before) (e.counts now) 0 0 1
    pub no_fault : (e.counts now).faults ≡ (e.counts before).faults

  -- the device failed: as its size was asked, and its bytes stay; or as it was laid out, and it has at most so many bytes
  pub record FailedLayingOut : Type 0 where
    pub cause : Rose (e.counts before).faults (e.counts now).faults
    pub left : (e.bytes now ≡ e.bytes before) ⊎ (IsEmpty (e.bytes before) × IfSome (e.bytes now) (λ new. length new ≤ size))
    pub kept : e.kept now ≡ e.kept before
    pub spends : Spends (e.counts before) (e.counts now) 0 0 (ready_calls (e.bytes before))

  -- what making a device ready for so many bytes answered
  abbrev pub MakesReady : Result (Unit {0}) RebuildFault → Type 0
  MakesReady (Ok _) = IsReady
  MakesReady (Err Small) = ⊥
  MakesReady (Err NotStore) = ⊥
  MakesReady (Err NotClosed) = ⊥
  MakesReady (Err (Other many)) = HasOthers many
  MakesReady (Err Device) = FailedLayingOut

-- The rebuild

module _ {D E : Type 0} (d : device.Ghosts D) (e : device.Ghosts E) (from from_now : D) (to to_now : E) where
  -- the file is refused for this reason, and the other device is as it was: it was not called
  pub record IsRefused (why : List ℕ → Type 0) : Type 0 where
    pub source : IsSeen d from why 1 1 from_now
    pub untouched : to_now ≡ to

  -- the file could be copied, but the other device has so many bytes: some, and not as many as the file. It was asked for its
  -- size alone
  pub record IsOther (many : ℕ) : Type 0 where
    pub source : IsSeen d from (λ bytes. IsClosedFile bytes × (many ≢ length bytes)) 1 1 from_now
    pub many_is : HasSize (e.bytes to) many
    pub some : many ≢ 0
    pub bytes_stay : e.bytes to_now ≡ e.bytes to
    pub spends : Spends (e.counts to) (e.counts to_now) 0 0 1
    pub no_fault : (e.counts to_now).faults ≡ (e.counts to).faults

  -- the one device failed before the header was read, and the other was not called
  pub record FailedAtHeader : Type 0 where
    pub source : FailedReading d from from_now
    pub untouched : to_now ≡ to

  -- the other device failed as its size was asked or as it was laid out, and it was called for nothing else
  pub record FailedReady : Type 0 where
    pub source : IsSeen d from IsClosedFile 1 1 from_now
    pub cause : Rose (e.counts to).faults (e.counts to_now).faults
    pub spends : Spends (e.counts to) (e.counts to_now) 0 0 (ready_calls (e.bytes to))
    pub left : (e.bytes to_now ≡ e.bytes to) ⊎ (IsEmpty (e.bytes to) × IfBoth (d.bytes from) (e.bytes to_now) (λ bytes new. length new ≤ length bytes))

  -- the other device was empty or had as many bytes as the file, where both are told
  abbrev pub HadRoom : Type 0
  HadRoom = IfBoth (d.bytes from) (e.bytes to) (λ bytes old. (length old ≡ 0) ⊎ (length old ≡ length bytes))

  -- one of the two failed as the bytes behind the first 512 were copied: the other has all its bytes, and no new header; beside
  -- pieces it was called for its size, and where it was empty for its layout, and so not to settle
  pub record FailedCopying : Type 0 where
    pub was : IfSome (d.bytes from) IsClosedFile
    pub had : HadRoom
    pub cause : Rose (d.counts from).faults (d.counts from_now).faults ⊎ Rose (e.counts to).faults (e.counts to_now).faults
    pub many : IfBoth (d.bytes from) (e.bytes to_now) (λ bytes new. length new ≡ length bytes)
    pub head : Both (e.bytes to) (e.bytes to_now) (λ old new. take 512 new ≡ first_bytes old)
    pub few_others : (e.counts to_now).others ≤ (e.counts to).others + ready_calls (e.bytes to)

  -- the other failed as the first 512 bytes were written or as it settled: all behind them is copied
  pub record FailedLast : Type 0 where
    pub was : IfSome (d.bytes from) IsClosedFile
    pub had : HadRoom
    pub cause : Rose (e.counts to).faults (e.counts to_now).faults
    pub no_fault : (d.counts from_now).faults ≡ (d.counts from).faults
    pub behind : IfBoth (d.bytes from) (e.bytes to_now) (λ bytes new. (length new ≡ length bytes) × (drop 512 new ≡ drop 512 bytes))

  -- the other has the bytes of the file, where both are told, and settled with them; no fault was met
  pub record IsWhole : Type 0 where
    pub was : IfSome (d.bytes from) IsClosedFile
    pub had : HadRoom
    pub same : IfBoth (d.bytes from) (e.bytes to_now) (λ bytes new. new ≡ bytes)
    pub settled : IsSettled e to_now
    pub no_fault : (d.counts from_now).faults ≡ (d.counts from).faults
    pub other_no_fault : (e.counts to_now).faults ≡ (e.counts to).faults

  -- what a rebuild answered, with its cause, and what the other device has
  abbrev pub Rebuilds : Result (Unit {0}) RebuildFault → Type 0
  Rebuilds (Ok _) = IsWhole
  Rebuilds (Err Small) = IsRefused IsSmall
  Rebuilds (Err NotStore) = IsRefused IsNoStore
  Rebuilds (Err NotClosed) = IsRefused IsInUse
  Rebuilds (Err (Other many)) = IsOther many
  Rebuilds (Err Device) = FailedAtHeader ⊎ (FailedReady ⊎ (FailedCopying ⊎ FailedLast))

  -- whatever was answered: the one device keeps its bytes and was not written, and the other was not read. Each piece of the
  -- file, which has at least one, was read once and written once at most; the one device was asked for its size, and the
  -- other was made ready and settled once
  pub record OnlyCopied : Type 0 where
    pub pieces : ℕ
    pub few : IfSome (d.bytes from) (λ bytes. pieces ≤ pieces_of (max 512 (length bytes)))
    pub bytes_stay : d.bytes from_now ≡ d.bytes from
    pub kept : d.kept from_now ≡ d.kept from
    pub spends : Spends (d.counts from) (d.counts from_now) pieces 0 1
    pub other_kept : e.kept to_now ≡ e.kept to
    pub other_spends : Spends (e.counts to) (e.counts to_now) 0 pieces (ready_calls (e.bytes to) + 1)

  -- the file is told, has a header and all cells, and was closed; the other device tells that it is empty or has as many
  -- bytes; and no fault was met
  pub record CanBeRebuilt : Type 0 where
    pub file : IsSomeAnd (d.bytes from) (λ bytes. IsClosedFile bytes × IsSomeAnd (e.bytes to) (λ old. (length old ≡ 0) ⊎ (length old ≡ length bytes)))
    pub calm : Rose (d.counts from).faults (d.counts from_now).faults → ⊥
    pub other_calm : Rose (e.counts to).faults (e.counts to_now).faults → ⊥
