-- Why a call of an open store is refused. `before` and `now` are the device's counts of faults.
use Rattle.std.specs.Prelude.{◌≡◌, ◌⊎◌, ◌≤◌, ℕ, true, false, List, Option, ⊤}
use Rattle.std.specs.Option.{IsSomeAnd}
use Rattle.cola_outside.specs.Faults.{Rose}
use Rattle.cola_spec.specs.Map as map
use Rattle.cola_spec.specs.Map.{Shape, is_key, is_value, PutOutcome}
use Rattle.cola_store.specs.Calls.{worn_at}
use Rattle.cola_kv.specs.declared.error.Error.{Error}
use Rattle.cola_kv.specs.declared.error.Error.TheVariants.{KeyLength, ValueLength, BadCell, Full, Worn, Overfull, Device}

-- On every file

-- a call that reads: the key has no bytes or too many, the device failed, or a cell is damaged
abbrev pub ReadCause : Shape → List ℕ → (before now : ℕ) → Error → Type 0
ReadCause shape key before now KeyLength = is_key shape key ≡ false
ReadCause shape key before now Device = Rose before now
ReadCause shape key before now (BadCell cell) = now ≡ before
ReadCause shape key before now _ = ⊥

-- a range: one of its ends has no bytes or too many, the device failed, or a cell is damaged
abbrev pub RangeCause : Shape → List ℕ → Option (List ℕ) → (before now : ℕ) → Error → Type 0
RangeCause shape low high before now KeyLength = (is_key shape low ≡ false) ⊎ IsSomeAnd high (λ key. is_key shape key ≡ false)
RangeCause shape low high before now Device = Rose before now
RangeCause shape low high before now (BadCell cell) = now ≡ before
RangeCause shape low high before now _ = ⊥

-- a step on a range: the device failed, or a cell is damaged
abbrev pub StepCause : (before now : ℕ) → Error → Type 0
StepCause before now Device = Rose before now
StepCause before now (BadCell cell) = now ≡ before
StepCause before now _ = ⊥

-- a delete: as a get, or a level has no room
abbrev pub DeleteCause : Shape → List ℕ → (before now : ℕ) → Error → Type 0
DeleteCause shape key before now KeyLength = is_key shape key ≡ false
DeleteCause shape key before now Device = Rose before now
DeleteCause shape key before now (BadCell cell) = now ≡ before
DeleteCause shape key before now (Overfull level) = now ≡ before
DeleteCause shape key before now _ = ⊥

-- a put: the same, or the value has too many bytes, or the store has as many keys as it is for, or no stamp is left after its last
abbrev pub PutCause : Shape → (count last : ℕ) → (key value : List ℕ) → (before now : ℕ) → Error → Type 0
PutCause shape count last key value before now KeyLength = is_key shape key ≡ false
PutCause shape count last key value before now ValueLength = (is_key shape key ≡ true) × (is_value shape value ≡ false)
PutCause shape count last key value before now Device = Rose before now
PutCause shape count last key value before now Full = (now ≡ before) × (shape.limit ≤ count)
PutCause shape count last key value before now Worn = (now ≡ before) × (worn_at shape last ≡ true)
PutCause shape count last key value before now (BadCell cell) = now ≡ before
PutCause shape count last key value before now (Overfull level) = now ≡ before
PutCause shape count last key value before now _ = ⊥

-- On a store that holds a map no cell is damaged and every level has room. Where the device failed, its count of faults rose, as the causes above say

-- why a call that reads or deletes is refused
abbrev pub IsReadRefusal : Shape → List ℕ → Error → Type 0
IsReadRefusal shape key KeyLength = is_key shape key ≡ false
IsReadRefusal shape key Device = ⊤
IsReadRefusal shape key _ = ⊥

-- why a put is refused: full and worn where the map says so
abbrev pub IsPutRefusal : Shape → (key value : List ℕ) → PutOutcome → Error → Type 0
IsPutRefusal shape key value outcome KeyLength = is_key shape key ≡ false
IsPutRefusal shape key value outcome ValueLength = (is_key shape key ≡ true) × (is_value shape value ≡ false)
IsPutRefusal shape key value outcome Full = outcome ≡ map.Full
IsPutRefusal shape key value outcome Worn = outcome ≡ map.Worn
IsPutRefusal shape key value outcome Device = ⊤
IsPutRefusal shape key value outcome _ = ⊥

-- why a range is refused
abbrev pub IsRangeRefusal : Shape → List ℕ → Option (List ℕ) → Error → Type 0
IsRangeRefusal shape low high KeyLength = (is_key shape low ≡ false) ⊎ IsSomeAnd high (λ key. is_key shape key ≡ false)
IsRangeRefusal shape low high Device = ⊤
IsRangeRefusal shape low high _ = ⊥

-- why a step on a range is refused, and the asking for the greatest key
abbrev pub IsStepRefusal : Error → Type 0
IsStepRefusal Device = ⊤
IsStepRefusal _ = ⊥
