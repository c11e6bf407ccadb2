-- A range of an open store: what is ahead of it, how it begins, and what each step on it answers.
use Rattle.std.specs.Prelude.{◌≡◌, ◌⊎◌, ◌<◌, ◌≤◌, ℕ, List, [], ◌∷◌, Option, Some, None, Result, Ok, Err, IfOk, IfErr, OnErr, OnSome, false}
use Rattle.std.specs.Option.{IsSomeAnd}
use Rattle.cola_cell.specs.declared.fault.ReadFault.TheVariants as read
use Rattle.cola_cursor.specs.declared.cursor.Cursor.{Cursor}
use Rattle.cola_device.specs.declared.device.Device as device
use Rattle.cola_spec.specs.Bounds.{range_bound}
use Rattle.cola_spec.specs.Map.{Map, is_key, pairs_between}
use Rattle.cola_store.specs.Walks as walks
use Rattle.cola_kv.specs.declared.error.Error.{Error}
use Rattle.cola_kv.specs.declared.error.Error.TheVariants.{KeyLength, BadCell, Device}
use Rattle.cola_kv.specs.declared.kv.Kv.{Kv}
use Rattle.cola_kv.specs.Causes.{RangeCause, StepCause, IsRangeRefusal, IsStepRefusal}
use Rattle.cola_kv.specs.Kv.{Holds, Stays, shape_of, levels_of, faults_of, steps_of}

module _ {D : Type 0} (d : device.Ghosts D) where
  -- a walk stands where a range of the store left it
  abbrev pub Stands : Kv D d → Cursor → Type 0
  Stands kv walk = walks.Stands d.bytes kv.store walk

  -- these pairs are ahead of it
  abbrev pub Ahead : Kv D d → Cursor → List (List ℕ × List ℕ) → Type 0
  Ahead kv walk pairs = walks.Ahead d.bytes kv.store walk pairs

-- a step takes the first of the pairs ahead, and answers none exactly where none is; a refused one takes nothing
abbrev pub IsNext : (List (List ℕ × List ℕ) → Type 0) → List (List ℕ × List ℕ) → Result (Option (List ℕ × List ℕ)) Error → Type 0
IsNext Ahead pairs (Ok (Some pair)) = (rest : List (List ℕ × List ℕ)) × (pairs ≡ pair ∷ rest) × Ahead rest
IsNext Ahead pairs (Ok None) = (pairs ≡ []) × Ahead []
IsNext Ahead pairs (Err error) = IsStepRefusal error × Ahead pairs

-- how many cells the walk of a begun range may read, each in one tick and of one block; nothing is asked of a refused one
abbrev pub left_begun : Result Cursor Error → ℕ
left_begun (Ok walk) = walks.left_of walk
left_begun (Err error) = 0

-- the same behind a step
abbrev pub left_behind : {A : Type 0} → Cursor → Result A Error → ℕ
left_behind walk (Ok answer) = walks.left_of walk
left_behind walk (Err error) = 0

module _ {D : Type 0} (d : device.Ghosts D) (old new : Kv D d) where
  -- the blocks that were read and the ticks that were made, and what is left of each, within a number; none is written
  abbrev pub TurnsFew : (left most : ℕ) → Type 0
  TurnsFew left most = walks.TurnsBy d.bytes d.counts old.store new.store left most

  -- on every store, sound or not: the walk is the one that a range of the store gives, and an error is the store's; by lengths it is not asked, and nothing changes
  abbrev pub StoreBegins : List ℕ → Option (List ℕ) → Result Cursor Error → Type 0
  StoreBegins low high (Ok walk) = walks.Begins d.bytes d.counts old.store low high (Ok walk) new.store
  StoreBegins low high (Err KeyLength) = new ≡ old
  StoreBegins low high (Err Device) = walks.Begins d.bytes d.counts old.store low high (Err read.Device) new.store
  StoreBegins low high (Err (BadCell cell)) = walks.Begins d.bytes d.counts old.store low high (Err (read.BadCell cell)) new.store
  StoreBegins low high (Err _) = ⊥

  -- the same of a step on a walk
  abbrev pub StoreGoes : (walk after : Cursor) → Result (Option (List ℕ × List ℕ)) Error → Type 0
  StoreGoes walk after (Ok answer) = walks.Goes d.bytes d.counts old.store walk (Ok answer) new.store after
  StoreGoes walk after (Err Device) = walks.Goes d.bytes d.counts old.store walk (Err read.Device) new.store after
  StoreGoes walk after (Err (BadCell cell)) = walks.Goes d.bytes d.counts old.store walk (Err (read.BadCell cell)) new.store after
  StoreGoes walk after (Err _) = ⊥

  -- a range from `low` on and below `high` was begun: on a store that holds a map the map's pairs of that interval are ahead, and the map stays
  pub record Begins (low : List ℕ) (high : Option (List ℕ)) (result : Result Cursor Error) : Type 0 where
    pub given : StoreBegins low high result
    pub ahead : (m : Map) → Holds d old m → IfOk result
        (λ walk. Ahead d new walk (pairs_between m low high))
    pub map_stays : (m : Map) → Holds d old m → Holds d new m
    pub refusal : (m : Map) → Holds d old m → IfErr result (IsRangeRefusal (shape_of old) low high)
    pub stands : IfOk result (Stands d new)
    pub short_end : (is_key (shape_of old) low ≡ false) ⊎ IsSomeAnd high (λ key. is_key (shape_of old) key ≡ false) →
        (result ≡ Err KeyLength) × (new ≡ old)
    pub cause : IfErr result (RangeCause (shape_of old) low high (faults_of d old) (faults_of d new))
    pub no_step : steps_of new ≡ steps_of old
    pub left : left_begun result ≤ range_bound (levels_of old)
    pub blocks : TurnsFew (left_begun result) (range_bound (levels_of old))
    pub no_ticks : new.ticks ≡ old.ticks
    pub stays : Stays d old new

  -- a step on a range was made
  pub record Nexts (walk after : Cursor) (result : Result (Option (List ℕ × List ℕ)) Error) : Type 0 where
    pub given : StoreGoes walk after result
    pub answer : (m : Map) (pairs : List (List ℕ × List ℕ)) → Holds d old m → Ahead d old walk pairs →
        IsNext (Ahead d new after) pairs result
    pub map_stays : (m : Map) → Holds d old m → Holds d new m
    pub stands : Stands d new after
    pub fewer : IfOk result (λ answer. OnSome answer (walks.cells_ahead after < walks.cells_ahead walk))
    pub refused : OnErr result (after ≡ walk)
    pub cause : IfErr result (StepCause (faults_of d old) (faults_of d new))
    pub no_step : steps_of new ≡ steps_of old
    pub left : walks.left_of after ≤ walks.left_of walk
    pub blocks : TurnsFew (left_behind after result) (walks.left_of walk)
    pub no_ticks : new.ticks ≡ old.ticks
    pub stays : Stays d old new

-- a range was begun and is the store's, or was refused
abbrev pub walked : {A : Type 0} → (A → Cursor) → Result A Error → Result Cursor Error
walked walk_of (Ok range) = Ok (walk_of range)
walked walk_of (Err error) = Err error
