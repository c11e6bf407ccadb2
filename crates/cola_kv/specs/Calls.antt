-- What each call of an open store answers, what it spends, and what it leaves: one record a call.
use Rattle.std.specs.Prelude.{◌≡◌, ℕ, ◌+◌, ◌*◌, ◌≤◌, true, false, List, Option, Some, Result, Ok, Err, IfOk, IfErr, OnOk}
use Rattle.cola_device.specs.declared.device.Device as device
use Rattle.cola_spec.specs.Bounds.{get_bound, put_bound}
use Rattle.cola_spec.specs.Command as command
use Rattle.cola_spec.specs.Command.{Command}
use Rattle.cola_spec.specs.Map as map
use Rattle.cola_spec.specs.Map.{Map, is_key, is_value, put_outcome, put_if_outcome, after_put, after_put_if, after_delete, value_of, stamp_of}
use Rattle.cola_spec.specs.Reply as reply
use Rattle.cola_spec.specs.Reply.{Reply}
use Rattle.cola_store.specs.Calls as store
use Rattle.cola_store.specs.Calls.{AnswersRequest, ReadsBy}
use Rattle.cola_table.specs.declared.Put.{Put}
use Rattle.cola_table.specs.declared.PutIf.{PutIf}
use Rattle.cola_table.specs.Answers.{put_answer, put_if_answer}
use Rattle.cola_kv.specs.declared.error.Error.{Error}
use Rattle.cola_kv.specs.declared.error.Error.TheVariants.{KeyLength, ValueLength, BadCell, Full, Worn, Overfull, Device}
use Rattle.cola_kv.specs.declared.kv.Kv.{Kv}
use Rattle.cola_kv.specs.Kv.{Holds, Stays, shape_of, levels_of, faults_of, steps_of}
use Rattle.cola_kv.specs.Causes.{ReadCause, DeleteCause, PutCause, IsReadRefusal, IsPutRefusal}

-- an answer without its number of ticks
abbrev pub unticked : {A : Type 0} → Result (A × ℕ) Error → Result A Error
unticked (Ok answer) = Ok answer.0
unticked (Err error) = Err error

-- what an accepted put is told as, and one that depends on the stamp seen
abbrev pub put_said : Put → Reply
put_said answer = reply.Put (put_answer answer)

abbrev pub put_if_said : PutIf → Reply
put_if_said answer = reply.Put (put_if_answer answer)

module _ {D : Type 0} (d : device.Ghosts D) (old new : Kv D d) where
  -- On every store, sound or not

  -- its table was asked this, answered so, and is this one afterwards
  abbrev pub Replies : Command → Reply → Type 0
  Replies request answer = AnswersRequest d.bytes d.counts (Some request) answer old.store new.store

  -- an error is what the table answered; by lengths it is not asked, and nothing changes
  abbrev pub StoreRefuses : Command → Error → Type 0
  StoreRefuses request KeyLength = new ≡ old
  StoreRefuses request ValueLength = new ≡ old
  StoreRefuses request Full = Replies request (reply.Put map.Full)
  StoreRefuses request Worn = Replies request (reply.Put map.Worn)
  StoreRefuses request Device = Replies request (reply.Failed reply.Fault)
  StoreRefuses request (BadCell cell) = Replies request (reply.Failed (reply.Damaged cell))
  StoreRefuses request (Overfull level) = Replies request (reply.Failed (reply.Overfull level))
  StoreRefuses request _ = ⊥

  -- a call answers what the table answered to this command, where `says` is how it tells what it accepts
  abbrev pub StoreSays : {A : Type 0} → Command → (A → Reply) → Result A Error → Type 0
  StoreSays request says (Ok answer) = Replies request (says answer)
  StoreSays request says (Err error) = StoreRefuses request error

  -- What is spent

  -- an answered call tells its ticks, at most so many; a refused one leaves the number of the last answered one
  abbrev pub Ticks : {A : Type 0} → ℕ → Result A Error → Type 0
  Ticks most (Ok answer) = new.ticks ≤ most
  Ticks most (Err error) = new.ticks ≡ old.ticks

  -- the store counts so many ticks more
  abbrev pub Ticked : ℕ → Type 0
  Ticked ticks = store.Ticked d.bytes d.counts old.store new.store ticks

  -- those that an answered call tells are the ones that it made; a refused one makes at most so many
  abbrev pub Spends : {A : Type 0} → ℕ → Result A Error → Type 0
  Spends most (Ok answer) = Ticked new.ticks
  Spends most (Err error) = (ticks : ℕ) × (ticks ≤ most) × Ticked ticks

  -- a search reads two blocks for each level at most, and one where the store holds a map; none is written
  pub record ReadsFew : Type 0 where
    pub most : ReadsBy d.bytes d.counts old.store new.store (2 * levels_of old)
    pub on_map : (m : Map) → Holds d old m → ReadsBy d.bytes d.counts old.store new.store (levels_of old)

  -- the blocks that a put or a delete reads and writes are together within the bound on its ticks
  abbrev pub TransfersFew : Type 0
  TransfersFew = store.TransfersWithin d.bytes d.counts old.store new.store

  module _ (key : List ℕ) where
    -- a get: on a store that holds a map it answers the value of the key, and the map stays
    pub record Gets (result : Result (Option (List ℕ)) Error) : Type 0 where
      pub given : StoreSays (command.Get key) reply.Got result
      pub answer : (m : Map) → Holds d old m → IfOk result (λ value. value ≡ value_of m key)
      pub map_stays : (m : Map) → Holds d old m → Holds d new m
      pub refusal : (m : Map) → Holds d old m → IfErr result (IsReadRefusal (shape_of old) key)
      pub short_key : is_key (shape_of old) key ≡ false → (result ≡ Err KeyLength) × (new ≡ old)
      pub cause : IfErr result (ReadCause (shape_of old) key (faults_of d old) (faults_of d new))
      pub no_step : steps_of new ≡ steps_of old
      pub ticks : Ticks (get_bound (levels_of old)) result
      pub spends : Spends (get_bound (levels_of old)) result
      pub blocks : ReadsFew
      pub stays : Stays d old new

    -- a stamp: it answers the stamp of the key, and the map stays
    pub record Stamps (result : Result (Option ℕ) Error) : Type 0 where
      pub given : StoreSays (command.Stamp key) reply.Stamped result
      pub answer : (m : Map) → Holds d old m → IfOk result (λ stamp. stamp ≡ stamp_of m key)
      pub map_stays : (m : Map) → Holds d old m → Holds d new m
      pub refusal : (m : Map) → Holds d old m → IfErr result (IsReadRefusal (shape_of old) key)
      pub short_key : is_key (shape_of old) key ≡ false → (result ≡ Err KeyLength) × (new ≡ old)
      pub cause : IfErr result (ReadCause (shape_of old) key (faults_of d old) (faults_of d new))
      pub no_step : steps_of new ≡ steps_of old
      pub ticks : Ticks (get_bound (levels_of old)) result
      pub spends : Spends (get_bound (levels_of old)) result
      pub blocks : ReadsFew
      pub stays : Stays d old new

    -- a delete: it answers the value that the key had, and the map is without it afterwards; a refused one leaves the map
    pub record Deletes (result : Result (Option (List ℕ)) Error) : Type 0 where
      pub given : StoreSays (command.Del key) reply.Deleted result
      pub answer : (m : Map) → Holds d old m → IfOk result (λ value. value ≡ value_of m key)
      pub map_after : (m : Map) → Holds d old m → OnOk result (Holds d new (after_delete m key))
      pub map_stays : (m : Map) → Holds d old m → IfErr result (λ error. Holds d new m)
      pub refusal : (m : Map) → Holds d old m → IfErr result (IsReadRefusal (shape_of old) key)
      pub short_key : is_key (shape_of old) key ≡ false → (result ≡ Err KeyLength) × (new ≡ old)
      pub cause : IfErr result (DeleteCause (shape_of old) key (faults_of d old) (faults_of d new))
      pub one_step : steps_of new ≤ steps_of old + 1
      pub ticks : Ticks (put_bound (levels_of old)) result
      pub spends : Spends (put_bound (levels_of old)) result
      pub blocks : TransfersFew
      pub stays : Stays d old new

    -- a put of a value: it is answered as the map answers it, and the map has the value afterwards; a refused one leaves the map
    pub record Puts (value : List ℕ) (result : Result Put Error) : Type 0 where
      pub given : StoreSays (command.Put key value) put_said result
      pub answer : (m : Map) → Holds d old m → IfOk result
          (λ put. put_answer put ≡ put_outcome (shape_of old) m key)
      pub map_after : (m : Map) → Holds d old m → OnOk result
          (Holds d new (after_put (shape_of old) m key value))
      pub map_stays : (m : Map) → Holds d old m → IfErr result (λ error. Holds d new m)
      pub refusal : (m : Map) → Holds d old m → IfErr result
          (IsPutRefusal (shape_of old) key value (put_outcome (shape_of old) m key))
      pub short_key : is_key (shape_of old) key ≡ false → (result ≡ Err KeyLength) × (new ≡ old)
      pub long_value : is_key (shape_of old) key ≡ true → is_value (shape_of old) value ≡ false →
          (result ≡ Err ValueLength) × (new ≡ old)
      pub cause : IfErr result
          (PutCause (shape_of old) old.store.count old.store.last key value (faults_of d old) (faults_of d new))
      pub one_step : steps_of new ≤ steps_of old + 1
      pub ticks : Ticks (put_bound (levels_of old)) result
      pub spends : Spends (put_bound (levels_of old)) result
      pub blocks : TransfersFew
      pub stays : Stays d old new

    -- the same of a put that depends on the stamp seen
    pub record PutsIf (seen : ℕ) (value : List ℕ) (result : Result PutIf Error) : Type 0 where
      pub given : StoreSays (command.PutIf key seen value) put_if_said result
      pub answer : (m : Map) → Holds d old m → IfOk result
          (λ put. put_if_answer put ≡ put_if_outcome (shape_of old) m key seen)
      pub map_after : (m : Map) → Holds d old m → OnOk result
          (Holds d new (after_put_if (shape_of old) m key seen value))
      pub map_stays : (m : Map) → Holds d old m → IfErr result (λ error. Holds d new m)
      pub refusal : (m : Map) → Holds d old m → IfErr result
          (IsPutRefusal (shape_of old) key value (put_if_outcome (shape_of old) m key seen))
      pub short_key : is_key (shape_of old) key ≡ false → (result ≡ Err KeyLength) × (new ≡ old)
      pub long_value : is_key (shape_of old) key ≡ true → is_value (shape_of old) value ≡ false →
          (result ≡ Err ValueLength) × (new ≡ old)
      pub cause : IfErr result
          (PutCause (shape_of old) old.store.count old.store.last key value (faults_of d old) (faults_of d new))
      pub one_step : steps_of new ≤ steps_of old + 1
      pub ticks : Ticks (put_bound (levels_of old)) result
      pub spends : Spends (put_bound (levels_of old)) result
      pub blocks : TransfersFew
      pub stays : Stays d old new
