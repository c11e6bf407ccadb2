-- Calls as data: what a map answers them one after another, what they may spend, and what making them says.
use Rattle.std.specs.Prelude.{◌≡◌, ℕ, ◌+◌, ◌≤◌, Option, List, [], ◌∷◌, ◌++◌, length, sum_by, All, Result, Ok, Err, ⊤}
use Rattle.cola_outside.specs.Faults.{Rose}
use Rattle.cola_device.specs.declared.device.Device as device
use Rattle.cola_spec.specs.Bounds.{command_bound}
use Rattle.cola_spec.specs.Command.{Command}
use Rattle.cola_spec.specs.Command as command
use Rattle.cola_spec.specs.Machine.{open_reply}
use Rattle.cola_spec.specs.Map.{Shape, Map, put_outcome, put_if_outcome, after_put, after_put_if, after_delete}
use Rattle.cola_spec.specs.Reply.{Reply}
use Rattle.cola_spec.specs.Reply as reply
use Rattle.cola_table.specs.declared.Put.{Put}
use Rattle.cola_table.specs.declared.PutIf.{PutIf}
use Rattle.cola_table.specs.Answers.{put_answer, put_if_answer}
use Rattle.cola_kv.specs.declared.error.Error.{Error}
use Rattle.cola_kv.specs.declared.error.Error.TheVariants.{Device}
use Rattle.cola_kv.specs.declared.list.Answer.{Answer}
use Rattle.cola_kv.specs.declared.list.Answer.TheVariants as answer
use Rattle.cola_kv.specs.declared.list.Call.{Call}
use Rattle.cola_kv.specs.declared.list.Call.TheVariants as call
use Rattle.cola_kv.specs.declared.kv.Kv.{Kv}
use Rattle.cola_kv.specs.Calls.{Gets, Stamps, Deletes, Puts, PutsIf}
use Rattle.cola_kv.specs.Causes.{IsReadRefusal, IsPutRefusal}
use Rattle.cola_kv.specs.Kv.{Holds, Stays, shape_of, faults_of, steps_of}

-- the command that a call is
abbrev pub command_of : Call → Command
command_of (call.Put key value) = command.Put key.now value.now
command_of (call.PutIf key seen value) = command.PutIf key.now seen value.now
command_of (call.Delete key) = command.Del key.now
command_of (call.Get key) = command.Get key.now
command_of (call.Stamp key) = command.Stamp key.now

-- the reply that an answer is
abbrev pub reply_of : Answer → Reply
reply_of (answer.Put put) = reply.Put (put_answer put)
reply_of (answer.PutIf put) = reply.Put (put_if_answer put)
reply_of (answer.Deleted value) = reply.Deleted value
reply_of (answer.Got value) = reply.Got value
reply_of (answer.Stamped stamp) = reply.Stamped stamp

-- the map after a call that was made
abbrev pub made_after : Shape → Map → Call → Map
made_after shape m (call.Put key value) = after_put shape m key.now value.now
made_after shape m (call.PutIf key seen value) = after_put_if shape m key.now seen value.now
made_after shape m (call.Delete key) = after_delete m key.now
made_after shape m (call.Get key) = m
made_after shape m (call.Stamp key) = m

-- the map after a call that was answered so: a refused one leaves it
abbrev pub map_after : Shape → Map → Call → Result Answer Error → Map
map_after shape m call (Ok answer) = made_after shape m call
map_after shape m call (Err error) = m

-- why a store that holds a map refuses a call
abbrev pub IsRefusal : Shape → Map → Call → Error → Type 0
IsRefusal shape m (call.Put key value) error = IsPutRefusal shape key.now value.now (put_outcome shape m key.now) error
IsRefusal shape m (call.PutIf key seen value) error = IsPutRefusal shape key.now value.now (put_if_outcome shape m key.now seen) error
IsRefusal shape m (call.Delete key) error = IsReadRefusal shape key.now error
IsRefusal shape m (call.Get key) error = IsReadRefusal shape key.now error
IsRefusal shape m (call.Stamp key) error = IsReadRefusal shape key.now error

-- a call is answered as the map answers it, or is refused with a reason that the map allows
abbrev pub IsAnswered : Shape → Map → Call → Result Answer Error → Type 0
IsAnswered shape m call (Ok answer) = reply_of answer ≡ open_reply shape m (command_of call)
IsAnswered shape m call (Err error) = IsRefusal shape m call error

-- Many calls

-- each is answered on the map that the one before it left
abbrev pub AreAnswered : Shape → Map → List Call → List (Result Answer Error) → Type 0
AreAnswered shape m [] [] = ⊤
AreAnswered shape m [] (result ∷ results) = ⊥
AreAnswered shape m (call ∷ calls) [] = ⊥
AreAnswered shape m (call ∷ calls) (result ∷ results) =
    IsAnswered shape m call result × AreAnswered shape (map_after shape m call result) calls results

-- the map that the last of them left
abbrev pub last_map : Shape → Map → List Call → List (Result Answer Error) → Map
last_map shape m [] results = m
last_map shape m (call ∷ calls) [] = m
last_map shape m (call ∷ calls) (result ∷ results) = last_map shape (map_after shape m call result) calls results

-- the most ticks of calls: the sum of their bounds
abbrev pub most_ticks : ℕ → List Call → ℕ
most_ticks levels calls = sum_by (λ call. command_bound levels (command_of call)) calls

-- the result of one call as that of a list
abbrev pub told_as : {A : Type 0} → (A → Answer) → Result A Error → Result Answer Error
told_as answer_of (Ok a) = Ok (answer_of a)
told_as answer_of (Err error) = Err error

module _ {D : Type 0} (d : device.Ghosts D) where
  module _ (old new : Kv D d) where
    -- on every store, sound or not: the call's own was made, with all that it says, and its result is told
    abbrev pub Makes : Call → Result Answer Error → Type 0
    Makes (call.Put key value) result = (put : Result Put Error) × (result ≡ told_as answer.Put put) × Puts d old new key.now value.now put
    Makes (call.PutIf key seen value) result = (put : Result PutIf Error) × (result ≡ told_as answer.PutIf put) × PutsIf d old new key.now seen value.now put
    Makes (call.Delete key) result = (had : Result (Option (List ℕ)) Error) × (result ≡ told_as answer.Deleted had) × Deletes d old new key.now had
    Makes (call.Get key) result = (has : Result (Option (List ℕ)) Error) × (result ≡ told_as answer.Got has) × Gets d old new key.now has
    Makes (call.Stamp key) result = (stamp : Result (Option ℕ) Error) × (result ≡ told_as answer.Stamped stamp) × Stamps d old new key.now stamp

    -- one call was made, and was answered so
    pub record Carries (call : Call) (result : Result Answer Error) : Type 0 where
      pub made : Makes call result
      pub answer : (m : Map) → Holds d old m → IsAnswered (shape_of old) m call result
      pub map : (m : Map) → Holds d old m → Holds d new (map_after (shape_of old) m call result)
      pub fault : result ≡ Err Device → Rose (faults_of d old) (faults_of d new)
      pub one_step : steps_of new ≤ steps_of old + 1
      pub stays : Stays d old new

  -- calls with their results, one after another, each on the store that the one before it left
  pub data Follow : Kv D d → List Call → List (Result Answer Error) → Kv D d → Type 0 where
    Start : {kv : Kv D d} → Follow kv [] [] kv
    Then : {old mid new : Kv D d} {calls : List Call} {results : List (Result Answer Error)} (call : Call) (result : Result Answer Error) →
        Follow old calls results mid → Carries mid new call result → Follow old (calls ++ call ∷ []) (results ++ result ∷ []) new

  module _ (old new : Kv D d) where
    -- calls were made one after another, and were answered so
    pub record CarriesAll (calls : List Call) (results : List (Result Answer Error)) : Type 0 where
      pub made : Follow old calls results new
      pub many : length results ≡ length calls
      pub answers : (m : Map) → Holds d old m → AreAnswered (shape_of old) m calls results
      pub map : (m : Map) → Holds d old m → Holds d new (last_map (shape_of old) m calls results)
      pub faults : All (λ result. result ≡ Err Device → Rose (faults_of d old) (faults_of d new)) results
      pub steps : steps_of new ≤ steps_of old + length calls
      pub stays : Stays d old new
