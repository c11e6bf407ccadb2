-- A store by falling keys: how such a range begins, and what the greatest key is.
use Rattle.std.specs.Prelude.{◌≡◌, ◌&&◌, ◌+◌, ◌≤◌, ℕ, true, false, Bool, List, None, Option, Some, Result, Ok, Err, IfOk, IfErr, ⊤}
use Rattle.std.specs.declared.ops.Bound.{Bound}
use Rattle.std.specs.declared.ops.Bound.TheVariants.{Included, Excluded, Unbounded}
use Rattle.cola_cell.specs.declared.fault.ReadFault.TheVariants as read
use Rattle.cola_outside.specs.Faults.{Rose}
use Rattle.cola_cursor.specs.declared.cursor.Cursor.{Cursor}
use Rattle.cola_device.specs.declared.device.Device as device
use Rattle.cola_spec.specs.Bounds.{range_bound}
use Rattle.cola_spec.specs.Map.{Map, Shape, is_key}
use Rattle.cola_store.specs.Backward as store
use Rattle.cola_store.specs.Backward.{pairs_back, last_pair}
use Rattle.cola_store.specs.Walks.{left_of}
use Rattle.cola_kv.specs.declared.error.Error.{Error}
use Rattle.cola_kv.specs.declared.error.Error.TheVariants.{KeyLength, BadCell, Device}
use Rattle.cola_kv.specs.declared.kv.Kv.{Kv}
use Rattle.cola_kv.specs.Calls.{Ticks}
use Rattle.cola_kv.specs.Causes.{StepCause, IsStepRefusal}
use Rattle.cola_kv.specs.Kv.{Holds, Stays, shape_of, levels_of, faults_of, steps_of}
use Rattle.cola_kv.specs.Ranged.{Stands, Ahead, TurnsFew, left_begun}

-- an end of a range may be a key of this shape, where there is one
abbrev pub is_low : Shape → Option (List ℕ) → Bool
is_low shape None = true
is_low shape (Some low) = is_key shape low

abbrev pub is_high : Shape → Bound (List ℕ) → Bool
is_high shape (Included high) = is_key shape high
is_high shape (Excluded high) = is_key shape high
is_high shape Unbounded = true

-- both ends of a falling range
abbrev pub are_ends : Shape → Option (List ℕ) → Bound (List ℕ) → Bool
are_ends shape low high = is_low shape low && is_high shape high

-- why a falling range is refused: one of its ends has no bytes or too many, the device failed, or a cell is damaged
abbrev pub BackCause : Shape → Option (List ℕ) → Bound (List ℕ) → (before now : ℕ) → Error → Type 0
BackCause shape low high before now KeyLength = are_ends shape low high ≡ false
BackCause shape low high before now Device = Rose before now
BackCause shape low high before now (BadCell cell) = now ≡ before
BackCause shape low high before now _ = ⊥

-- the same on a store that holds a map: no cell is damaged
abbrev pub IsBackRefusal : Shape → Option (List ℕ) → Bound (List ℕ) → Error → Type 0
IsBackRefusal shape low high KeyLength = are_ends shape low high ≡ false
IsBackRefusal shape low high Device = ⊤
IsBackRefusal shape low high _ = ⊥

module _ {D : Type 0} (d : device.Ghosts D) (old new : Kv D d) where
  -- on every store, sound or not: the walk is the one that a falling range of the store gives, and an error is the store's; by lengths it is not asked, and nothing changes
  abbrev pub StoreBeginsBack : Option (List ℕ) → Bound (List ℕ) → Result Cursor Error → Type 0
  StoreBeginsBack low high (Ok walk) = store.BeginsBack d.bytes d.counts old.store low high (Ok walk) new.store
  StoreBeginsBack low high (Err KeyLength) = new ≡ old
  StoreBeginsBack low high (Err Device) = store.BeginsBack d.bytes d.counts old.store low high (Err read.Device) new.store
  StoreBeginsBack low high (Err (BadCell cell)) = store.BeginsBack d.bytes d.counts old.store low high (Err (read.BadCell cell)) new.store
  StoreBeginsBack low high (Err _) = ⊥

  -- the greatest key was answered by a walk of the store's, and the ticks that are told are the cells that the walk read
  pub record TellsLast (pair : Option (List ℕ × List ℕ)) (ticks ticks_now : ℕ) : Type 0 where
    pub asks : store.AsksLast d.bytes d.counts old.store (Ok pair) new.store ticks ticks_now
    pub told : new.ticks + left_of asks.after ≡ left_of asks.walk

  -- the same of the greatest key, with the ticks of a ledger before and behind the call
  abbrev pub StoreLasts : (ticks ticks_now : ℕ) → Result (Option (List ℕ × List ℕ)) Error → Type 0
  StoreLasts ticks ticks_now (Ok pair) = TellsLast pair ticks ticks_now
  StoreLasts ticks ticks_now (Err Device) = store.AsksLast d.bytes d.counts old.store (Err read.Device) new.store ticks ticks_now
  StoreLasts ticks ticks_now (Err (BadCell cell)) = store.AsksLast d.bytes d.counts old.store (Err (read.BadCell cell)) new.store ticks ticks_now
  StoreLasts ticks ticks_now (Err _) = ⊥

  -- a range was begun that falls from `high` down to `low`: on a store that holds a map the map's pairs of that interval are ahead, by falling keys, and the map stays
  pub record BeginsBack (low : Option (List ℕ)) (high : Bound (List ℕ)) (result : Result Cursor Error) : Type 0 where
    pub given : StoreBeginsBack low high result
    pub ahead : (m : Map) → Holds d old m → IfOk result (λ walk. Ahead d new walk (pairs_back m low high))
    pub map_stays : (m : Map) → Holds d old m → Holds d new m
    pub refusal : (m : Map) → Holds d old m → IfErr result (IsBackRefusal (shape_of old) low high)
    pub stands : IfOk result (Stands d new)
    pub short_end : are_ends (shape_of old) low high ≡ false → (result ≡ Err KeyLength) × (new ≡ old)
    pub cause : IfErr result (BackCause (shape_of old) low high (faults_of d old) (faults_of d new))
    pub no_step : steps_of new ≡ steps_of old
    pub left : left_begun result ≤ range_bound (levels_of old)
    pub blocks : TurnsFew d old new (left_begun result) (range_bound (levels_of old))
    pub no_ticks : new.ticks ≡ old.ticks
    pub stays : Stays d old new

  -- the greatest key was asked for: on a store that holds a map its pair is answered, and the map stays
  pub record Lasts (result : Result (Option (List ℕ × List ℕ)) Error) : Type 0 where
    pub ticks : ℕ
    pub ticks_now : ℕ
    pub given : StoreLasts ticks ticks_now result
    pub answer : (m : Map) → Holds d old m → IfOk result (λ pair. pair ≡ last_pair m)
    pub map_stays : (m : Map) → Holds d old m → Holds d new m
    pub refusal : (m : Map) → Holds d old m → IfErr result IsStepRefusal
    pub cause : IfErr result (StepCause (faults_of d old) (faults_of d new))
    pub no_step : steps_of new ≡ steps_of old
    pub blocks : TurnsFew d old new 0 (range_bound (levels_of old))
    pub told : Ticks d old new (range_bound (levels_of old)) result
    pub stays : Stays d old new
