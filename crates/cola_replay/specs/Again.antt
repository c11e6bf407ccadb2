-- The calls of a store and those of its log take a map to the same one.
use Rattle.std.specs.Prelude.{◌≡◌, ◌≢◌, ℕ, List, [], ◌∷◌, Result, Ok, Err, ⊤}
use Rattle.cola_device.specs.declared.device.Device as device
use Rattle.cola_spec.specs.Map.{Map}
use Rattle.cola_log.specs.Format as log
use Rattle.cola_log.specs.Format.{Logged, read_log}
use Rattle.cola_kv.specs.declared.error.Error.{Error}
use Rattle.cola_kv.specs.declared.error.Error.TheVariants.{Device}
use Rattle.cola_kv.specs.declared.list.Answer.{Answer}
use Rattle.cola_kv.specs.declared.list.Call.{Call}
use Rattle.cola_kv.specs.declared.list.Call.TheVariants as call
use Rattle.cola_kv.specs.declared.kv.Kv.{Kv}
use Rattle.cola_kv.specs.Kv.{Holds, shape_of}
use Rattle.cola_kv.specs.Listed.{CarriesAll}
use Rattle.cola_replay.specs.declared.making.Replayed.{Replayed}
use Rattle.cola_replay.specs.Made.{after_all}
use Rattle.cola_replay.specs.Replays.{Replays}

-- the calls that are logged: those that only look are not
abbrev pub logged_of : List Call → List Logged
logged_of [] = []
logged_of (call.Put key value ∷ calls) = log.Put key.now value.now ∷ logged_of calls
logged_of (call.PutIf key seen value ∷ calls) = log.PutIf key.now seen value.now ∷ logged_of calls
logged_of (call.Delete key ∷ calls) = log.Delete key.now ∷ logged_of calls
logged_of (call.Get key ∷ calls) = logged_of calls
logged_of (call.Stamp key ∷ calls) = logged_of calls

-- no call was refused by the device
abbrev pub NoneFailed : List (Result Answer Error) → Type 0
NoneFailed [] = ⊤
NoneFailed (result ∷ results) = (result ≢ Err Device) × NoneFailed results

-- a store held a map, and calls were made on it; a log of which these calls are read was made again on one that holds the same map:
-- both hold the same map afterwards
abbrev pub AreMadeAgain : {D : Type 0} → device.Ghosts D → Type 0
AreMadeAgain {D} d =
    (old new again last : Kv D d) (m : Map) (calls : List Call) (results : List (Result Answer Error)) (page bytes : List ℕ) (replayed : Replayed) →
    Holds d old m → CarriesAll d old new calls results → NoneFailed results →
    Holds d again m → shape_of again ≡ shape_of old → read_log page bytes ≡ logged_of calls → Replays d again last page bytes (Ok replayed) →
    Holds d new (after_all (shape_of old) m (logged_of calls)) × Holds d last (after_all (shape_of old) m (logged_of calls))
