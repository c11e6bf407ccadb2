-- What a rebuild answers, said once more in plain terms: what each answer says of both devices.
use Rattle.std.specs.Prelude.{◌≡◌, ◌≢◌, ◌⊎◌, ℕ, ◌+◌, ◌≤◌, List, length, take, drop, Result, Ok, Err, IfSome}
use Rattle.cola_outside.specs.Faults.{Rose}
use Rattle.cola_outside.specs.Told.{Both}
use Rattle.cola_device.specs.declared.device.Device as device
use Rattle.cola_device.specs.Settling.{IsSettled}
use Rattle.cola_opening.specs.Counted.{Spends}
use Rattle.cola_opening.specs.Judged.{IsSmall, IsNoStore, IsSeen, FailedReading, IsClosedFile, IsInUse}
use Rattle.cola_mirror.specs.declared.fault.RebuildFault.{RebuildFault}
use Rattle.cola_mirror.specs.declared.fault.RebuildFault.TheVariants.{Small, NotStore, NotClosed, Other, Device}
use Rattle.cola_mirror.specs.Differ.{IfBoth}
use Rattle.cola_mirror.specs.Rebuild.{first_bytes, ready_calls}

module _ {D E : Type 0} (d : device.Ghosts D) (e : device.Ghosts E) (from from_now : D) (to to_now : E) where
  -- the one device met no fault; the other met none; the other met one
  abbrev pub Calm : Type 0
  Calm = (d.counts from_now).faults ≡ (d.counts from).faults

  abbrev pub OtherCalm : Type 0
  OtherCalm = (e.counts to_now).faults ≡ (e.counts to).faults

  abbrev pub OtherFault : Type 0
  OtherFault = Rose (e.counts to).faults (e.counts to_now).faults

  -- the file was a closed one, and the other device was empty or had as many bytes
  abbrev pub WasFitting : Type 0
  WasFitting = IfSome (d.bytes from) IsClosedFile
      × IfBoth (d.bytes from) (e.bytes to) (λ bytes old. (length old ≡ 0) ⊎ (length old ≡ length bytes))

  -- this holds of the bytes of the file and of those that the other device has now
  abbrev pub OfBoth : (List ℕ → List ℕ → Type 0) → Type 0
  OfBoth = IfBoth (d.bytes from) (e.bytes to_now)

  -- the file was refused for this reason, and the other device was not called
  abbrev pub IsRefused : (List ℕ → Type 0) → Type 0
  IsRefused why = IsSeen d from why 1 1 from_now × (to_now ≡ to)

  -- the other device has so many bytes, not none and not as many as the file; it stays, and was called once at most
  abbrev pub HasOthers : ℕ → Type 0
  HasOthers many = IsSeen d from (λ bytes. IsClosedFile bytes × (many ≢ length bytes)) 1 1 from_now × (OtherCalm
      × (IfSome (e.bytes to) (λ old. many ≡ length old) × ((many ≢ 0)
      × ((e.bytes to_now ≡ e.bytes to) × Spends (e.counts to) (e.counts to_now) 0 0 1))))

  -- it failed before it was written: it stays, or it was empty and has at most the bytes that were asked for
  abbrev pub IsNotReady : Type 0
  IsNotReady = IsSeen d from IsClosedFile 1 1 from_now × (OtherFault × (Spends (e.counts to) (e.counts to_now) 0 0 (ready_calls (e.bytes to))
      × ((e.bytes to_now ≡ e.bytes to)
      ⊎ (IfSome (e.bytes to) (λ old. length old ≡ 0) × OfBoth (λ bytes new. length new ≤ length bytes)))))

  -- a device failed as the bytes behind the first 512 were copied: the first 512 stay, or are zero where there was none
  abbrev pub IsNotCopied : Type 0
  IsNotCopied = WasFitting × ((Rose (d.counts from).faults (d.counts from_now).faults ⊎ OtherFault)
      × (OfBoth (λ bytes new. length new ≡ length bytes) × (Both (e.bytes to) (e.bytes to_now) (λ old new. take 512 new ≡ first_bytes old)
      × ((e.counts to_now).others ≤ (e.counts to).others + ready_calls (e.bytes to)))))

  -- the other device failed behind that: all but the first 512 bytes is that of the file
  abbrev pub IsNotEnded : Type 0
  IsNotEnded = WasFitting × (Calm × (OtherFault × OfBoth (λ bytes new. (length new ≡ length bytes) × (drop 512 new ≡ drop 512 bytes))))

  -- what a rebuild says by its answer
  abbrev pub RebuildSays : Result (Unit {0}) RebuildFault → Type 0
  RebuildSays (Ok _) = WasFitting × (Calm × (OtherCalm × (OfBoth (λ bytes new. new ≡ bytes) × IsSettled e to_now)))
  RebuildSays (Err Small) = IsRefused IsSmall
  RebuildSays (Err NotStore) = IsRefused IsNoStore
  RebuildSays (Err NotClosed) = IsRefused IsInUse
  RebuildSays (Err (Other many)) = HasOthers many
  RebuildSays (Err Device) = (FailedReading d from from_now × (to_now ≡ to)) ⊎ (IsNotReady ⊎ (IsNotCopied ⊎ IsNotEnded))
