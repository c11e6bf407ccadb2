-- What making the calls of a log again does to an open store.
use Rattle.std.specs.Prelude.{◌≡◌, ◌≢◌, ℕ, List, take, length, Option, Some, None, Result, Ok, Err, IfOk, IfErr, OnOk}
use Rattle.cola_outside.specs.Faults.{Rose}
use Rattle.cola_device.specs.declared.device.Device as device
use Rattle.cola_spec.specs.Map.{Map}
use Rattle.cola_table.specs.declared.Put.{Put}
use Rattle.cola_table.specs.declared.PutIf.{PutIf}
use Rattle.cola_log.specs.Format as log
use Rattle.cola_log.specs.Format.{Logged, first_sum, log_of, sums_after, read_records, read_log}
use Rattle.cola_log.specs.Appended.{IsReadTo}
use Rattle.cola_kv.specs.declared.error.Error.{Error}
use Rattle.cola_kv.specs.declared.error.Error.TheVariants.{KeyLength, ValueLength, Full, Worn, Device}
use Rattle.cola_kv.specs.declared.kv.Kv.{Kv}
use Rattle.cola_kv.specs.Calls.{Deletes, Puts, PutsIf}
use Rattle.cola_kv.specs.Kv.{Holds, Stays, shape_of, faults_of}
use Rattle.cola_replay.specs.declared.making.Replayed.{Replayed}
use Rattle.cola_replay.specs.Made.{after, after_all}

-- an error is told that is none with which a map refuses a call
abbrev pub failed_by : Error → Option Error
failed_by KeyLength = None
failed_by ValueLength = None
failed_by Full = None
failed_by Worn = None
failed_by error = Some error

abbrev pub failed : {A : Type 0} → Result A Error → Option Error
failed (Ok answer) = None
failed (Err error) = failed_by error

-- where the log follows a file with this first page, its first sum and its records are whole, up to the first that does not bear its sum
abbrev pub IsWhole : (page bytes : List ℕ) → ℕ → Type 0
IsWhole page bytes size = take 32 bytes ≡ first_sum page → size ≡ length (log_of page (read_log page bytes))

-- how far a log was read
pub record IsTold (page bytes : List ℕ) (replayed : Replayed) : Type 0 where
  pub whole : IsWhole page bytes replayed.whole
  pub none : take 32 bytes ≢ first_sum page → replayed.whole ≡ 0
  pub sum_is : replayed.sum.sum ≡ sums_after (first_sum page) (read_log page bytes)
  pub done : replayed.done ≡ length (read_log page bytes)

module _ {D : Type 0} (d : device.Ghosts D) (old new : Kv D d) where
  -- the store's own call was made, and this is told of its answer
  abbrev pub Own : Logged → Option Error → Type 0
  Own (log.Put key value) why = (put : Result Put Error) × (why ≡ failed put) × Puts d old new key value put
  Own (log.PutIf key seen value) why = (put : Result PutIf Error) × (why ≡ failed put) × PutsIf d old new key seen value put
  Own (log.Delete key) why = (had : Result (Option (List ℕ)) Error) × (why ≡ failed had) × Deletes d old new key had

  -- a call was made: on a store that holds a map, that after the call is held, and only the device fails
  pub record Remakes (it : Logged) (why : Option Error) : Type 0 where
    pub made : Own it why
    pub map : (m : Map) → Holds d old m → why ≡ None → Holds d new (after (shape_of old) m it)
    pub refusal : (m : Map) → Holds d old m → (error : Error) → why ≡ Some error → error ≡ Device
    pub fault : why ≡ Some Device → Rose (faults_of d old) (faults_of d new)
    pub stays : Stays d old new

  -- the calls of records were made
  pub record ReplaysRecords (sum sum' bytes : List ℕ) (result : Result (ℕ × ℕ) Error) : Type 0 where
    pub map : (m : Map) → Holds d old m → OnOk result (Holds d new (after_all (shape_of old) m (read_records sum bytes)))
    pub refusal : (m : Map) → Holds d old m → IfErr result (λ error. error ≡ Device)
    pub passed : IfOk result (λ it. IsReadTo sum bytes sum' it.0)
    pub done : IfOk result (λ it. it.1 ≡ length (read_records sum bytes))
    pub fault : result ≡ Err Device → Rose (faults_of d old) (faults_of d new)
    pub stays : Stays d old new

  -- the calls of a log were made: on a store that holds a map, that after the calls that are read of it is held, and only the device fails
  pub record Replays (page bytes : List ℕ) (result : Result Replayed Error) : Type 0 where
    pub map : (m : Map) → Holds d old m → OnOk result (Holds d new (after_all (shape_of old) m (read_log page bytes)))
    pub refusal : (m : Map) → Holds d old m → IfErr result (λ error. error ≡ Device)
    pub told : IfOk result (IsTold page bytes)
    pub others : take 32 bytes ≢ first_sum page → new ≡ old
    pub fault : result ≡ Err Device → Rose (faults_of d old) (faults_of d new)
    pub stays : Stays d old new
