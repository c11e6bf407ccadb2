-- A call that is made on an open store, by the map that it holds.
use Rattle.std.proofs.Common.{◌≡◌, ℕ, Bool, true, false, List, Option, Some, None, Result, Ok, Err, refl, sym, ap, subst}
use Rattle.std.specs.Prelude.{◌&&◌, if◌then◌else◌}
use Rattle.cola_device.specs.declared.device.Device as device
use Rattle.cola_spec.specs.Map as map
use Rattle.cola_spec.specs.Map.{Shape, Map, PutOutcome, is_key, is_value, put_outcome, put_if_outcome, with_value, settled, after_put, after_put_if, after_delete}
use Rattle.cola_table.specs.declared.Put.{Put}
use Rattle.cola_table.specs.declared.PutIf.{PutIf}
use Rattle.cola_log.specs.Format as log
use Rattle.cola_kv.specs.declared.error.Error.{Error}
use Rattle.cola_kv.specs.declared.error.Error.TheVariants as error
use Rattle.cola_kv.specs.declared.kv.Kv.{Kv}
use Rattle.cola_kv.specs.Calls.{Deletes, Puts, PutsIf}
use Rattle.cola_kv.specs.Causes.{IsReadRefusal, IsPutRefusal, DeleteCause, PutCause}
use Rattle.cola_kv.specs.Kv.{Holds, shape_of, faults_of}
use Rattle.cola_replay.specs.Made.{after}
use Rattle.cola_replay.specs.Replays.{failed_by, failed, Remakes}

-- Errors

-- an error that is told is itself
pub told_is : (e x : Error) → failed_by e ≡ Some x → e ≡ x
told_is error.KeyLength x is = absurd (cc is)
told_is error.ValueLength x is = absurd (cc is)
told_is error.Full x is = absurd (cc is)
told_is error.Worn x is = absurd (cc is)
told_is error.Keys x is = cc is
told_is error.Block x is = cc is
told_is error.NotEmpty x is = cc is
told_is error.NotStore x is = cc is
told_is error.Small x is = cc is
told_is error.NotClosed x is = cc is
told_is (error.BadCell cell) x is = cc is
told_is error.OutOfMemory x is = cc is
told_is (error.Overfull level) x is = cc is
told_is error.Device x is = cc is

-- on a map only the device's error is told
only_put : (shape : Shape) (key value : List ℕ) (outcome : PutOutcome) (e x : Error) → IsPutRefusal shape key value outcome e → failed_by e ≡ Some x → x ≡ error.Device
only_put shape key value outcome error.KeyLength x why is = absurd (cc is)
only_put shape key value outcome error.ValueLength x why is = absurd (cc is)
only_put shape key value outcome error.Full x why is = absurd (cc is)
only_put shape key value outcome error.Worn x why is = absurd (cc is)
only_put shape key value outcome error.Keys x why is = absurd why
only_put shape key value outcome error.Block x why is = absurd why
only_put shape key value outcome error.NotEmpty x why is = absurd why
only_put shape key value outcome error.NotStore x why is = absurd why
only_put shape key value outcome error.Small x why is = absurd why
only_put shape key value outcome error.NotClosed x why is = absurd why
only_put shape key value outcome (error.BadCell cell) x why is = absurd why
only_put shape key value outcome error.OutOfMemory x why is = absurd why
only_put shape key value outcome (error.Overfull level) x why is = absurd why
only_put shape key value outcome error.Device x why is = cc is

only_read : (shape : Shape) (key : List ℕ) (e x : Error) → IsReadRefusal shape key e → failed_by e ≡ Some x → x ≡ error.Device
only_read shape key error.KeyLength x why is = absurd (cc is)
only_read shape key error.ValueLength x why is = absurd why
only_read shape key error.Full x why is = absurd why
only_read shape key error.Worn x why is = absurd why
only_read shape key error.Keys x why is = absurd why
only_read shape key error.Block x why is = absurd why
only_read shape key error.NotEmpty x why is = absurd why
only_read shape key error.NotStore x why is = absurd why
only_read shape key error.Small x why is = absurd why
only_read shape key error.NotClosed x why is = absurd why
only_read shape key (error.BadCell cell) x why is = absurd why
only_read shape key error.OutOfMemory x why is = absurd why
only_read shape key (error.Overfull level) x why is = absurd why
only_read shape key error.Device x why is = cc is

-- Maps

left : (b : Bool) (x m : Map) → x ≡ m → (if b then x else m) ≡ m
left true x m is = is
left false x m is = refl

not_then : (b : Bool) (x m : Map) → b ≡ false → (if b then x else m) ≡ m
not_then true x m is = absurd (cc is)
not_then false x m is = refl

then_is : (b : Bool) (x m : Map) → b ≡ true → (if b then x else m) ≡ x
then_is true x m is = refl
then_is false x m is = absurd (cc is)

no_key : (a b : Bool) → a ≡ false → (a && b) ≡ false
no_key true b is = absurd (cc is)
no_key false b is = refl

no_value : (a b : Bool) → b ≡ false → (a && b) ≡ false
no_value true b is = is
no_value false b is = refl

both : (a b : Bool) → a ≡ true → b ≡ true → (a && b) ≡ true
both true b is other = other
both false b is other = absurd (cc is)

full_leaves : (outcome : PutOutcome) (old new : Map) → outcome ≡ map.Full → settled outcome old new ≡ old
full_leaves outcome old new is = ap (λ (o : PutOutcome). settled o old new) is

worn_leaves : (outcome : PutOutcome) (old new : Map) → outcome ≡ map.Worn → settled outcome old new ≡ old
worn_leaves outcome old new is = ap (λ (o : PutOutcome). settled o old new) is

-- a put that was refused and is not told leaves the map, as it does by the map
put_left : (shape : Shape) (key value : List ℕ) (outcome : PutOutcome) (m x : Map) (e : Error) → IsPutRefusal shape key value outcome e → failed_by e ≡ None →
    (if is_key shape key && is_value shape value then settled outcome m x else m) ≡ m
put_left shape key value outcome m x error.KeyLength why is =
    not_then (is_key shape key && is_value shape value) (settled outcome m x) m (no_key (is_key shape key) (is_value shape value) why)
put_left shape key value outcome m x error.ValueLength why is =
    not_then (is_key shape key && is_value shape value) (settled outcome m x) m (no_value (is_key shape key) (is_value shape value) why.1)
put_left shape key value outcome m x error.Full why is = left (is_key shape key && is_value shape value) (settled outcome m x) m (full_leaves outcome m x why)
put_left shape key value outcome m x error.Worn why is = left (is_key shape key && is_value shape value) (settled outcome m x) m (worn_leaves outcome m x why)
put_left shape key value outcome m x error.Keys why is = absurd why
put_left shape key value outcome m x error.Block why is = absurd why
put_left shape key value outcome m x error.NotEmpty why is = absurd why
put_left shape key value outcome m x error.NotStore why is = absurd why
put_left shape key value outcome m x error.Small why is = absurd why
put_left shape key value outcome m x error.NotClosed why is = absurd why
put_left shape key value outcome m x (error.BadCell cell) why is = absurd why
put_left shape key value outcome m x error.OutOfMemory why is = absurd why
put_left shape key value outcome m x (error.Overfull level) why is = absurd why
put_left shape key value outcome m x error.Device why is = absurd (cc is)

delete_left : (shape : Shape) (key : List ℕ) (m x : Map) (e : Error) → IsReadRefusal shape key e → failed_by e ≡ None → (if is_key shape key then x else m) ≡ m
delete_left shape key m x error.KeyLength why is = not_then (is_key shape key) x m why
delete_left shape key m x error.ValueLength why is = absurd why
delete_left shape key m x error.Full why is = absurd why
delete_left shape key m x error.Worn why is = absurd why
delete_left shape key m x error.Keys why is = absurd why
delete_left shape key m x error.Block why is = absurd why
delete_left shape key m x error.NotEmpty why is = absurd why
delete_left shape key m x error.NotStore why is = absurd why
delete_left shape key m x error.Small why is = absurd why
delete_left shape key m x error.NotClosed why is = absurd why
delete_left shape key m x (error.BadCell cell) why is = absurd why
delete_left shape key m x error.OutOfMemory why is = absurd why
delete_left shape key m x (error.Overfull level) why is = absurd why
delete_left shape key m x error.Device why is = absurd (cc is)

-- what was answered has lengths that the shape allows
has : (b : Bool) → (b ≡ false → ⊥) → b ≡ true
has true never = refl
has false never = absurd (never refl)

module _ {D : Type 0} (d : device.Ghosts D) (old new : Kv D d) where
  put_map : (key value : List ℕ) (put : Result Put Error) → Puts d old new key value put → (m : Map) → Holds d old m → failed put ≡ None → Holds d new (after (shape_of old) m (log.Put key value))
  put_map key value (Ok answer) is m holds none =
      let shape = shape_of old in
      let k : is_key shape key ≡ true = has (is_key shape key) (λ e. let no : Ok answer ≡ Err error.KeyLength = (is.short_key e).0 in absurd (cc no)) in
      let v : is_value shape value ≡ true = has (is_value shape value) (λ e. let no : Ok answer ≡ Err error.ValueLength = (is.long_value k e).0 in absurd (cc no)) in
      subst (λ (x : Map). Holds d new x) (sym (then_is (is_key shape key && is_value shape value) (after_put shape m key value) m (both (is_key shape key) (is_value shape value) k v))) (is.map_after m holds)
  put_map key value (Err e) is m holds none =
      let shape = shape_of old in
      subst (λ (x : Map). Holds d new x) (sym (put_left shape key value (put_outcome shape m key) m (with_value shape m key value) e (is.refusal m holds) none)) (is.map_stays m holds)

  put_if_map : (key : List ℕ) (seen : ℕ) (value : List ℕ) (put : Result PutIf Error) → PutsIf d old new key seen value put → (m : Map) → Holds d old m → failed put ≡ None →
      Holds d new (after (shape_of old) m (log.PutIf key seen value))
  put_if_map key seen value (Ok answer) is m holds none =
      let shape = shape_of old in
      let k : is_key shape key ≡ true = has (is_key shape key) (λ e. let no : Ok answer ≡ Err error.KeyLength = (is.short_key e).0 in absurd (cc no)) in
      let v : is_value shape value ≡ true = has (is_value shape value) (λ e. let no : Ok answer ≡ Err error.ValueLength = (is.long_value k e).0 in absurd (cc no)) in
      subst (λ (x : Map). Holds d new x) (sym (then_is (is_key shape key && is_value shape value) (after_put_if shape m key seen value) m (both (is_key shape key) (is_value shape value) k v))) (is.map_after m holds)
  put_if_map key seen value (Err e) is m holds none =
      let shape = shape_of old in
      subst (λ (x : Map). Holds d new x) (sym (put_left shape key value (put_if_outcome shape m key seen) m (with_value shape m key value) e (is.refusal m holds) none)) (is.map_stays m holds)

  delete_map : (key : List ℕ) (had : Result (Option (List ℕ)) Error) → Deletes d old new key had → (m : Map) → Holds d old m → failed had ≡ None → Holds d new (after (shape_of old) m (log.Delete key))
  delete_map key (Ok answer) is m holds none =
      let shape = shape_of old in
      let k : is_key shape key ≡ true = has (is_key shape key) (λ e. let no : Ok answer ≡ Err error.KeyLength = (is.short_key e).0 in absurd (cc no)) in
      subst (λ (x : Map). Holds d new x) (sym (then_is (is_key shape key) (after_delete m key) m k)) (is.map_after m holds)
  delete_map key (Err e) is m holds none =
      subst (λ (x : Map). Holds d new x) (sym (delete_left (shape_of old) key m (after_delete m key) e (is.refusal m holds) none)) (is.map_stays m holds)

  pub put_remade : (key value : List ℕ) (put : Result Put Error) → Puts d old new key value put → Remakes d old new (log.Put key value) (failed put)
  put_remade key value (Ok answer) is = record {
    made = (Ok answer, refl, is);
    map = put_map key value (Ok answer) is;
    refusal = λ m holds x told. absurd (cc told);
    fault = λ told. absurd (cc told);
    stays = is.stays;
  }
  put_remade key value (Err e) is = record {
    made = (Err e, refl, is);
    map = put_map key value (Err e) is;
    refusal = λ m holds x told. only_put (shape_of old) key value (put_outcome (shape_of old) m key) e x (is.refusal m holds) told;
    fault = λ told. subst (λ (x : Error). PutCause (shape_of old) old.store.count old.store.last key value (faults_of d old) (faults_of d new) x) (told_is e error.Device told) is.cause;
    stays = is.stays;
  }

  pub put_if_remade : (key : List ℕ) (seen : ℕ) (value : List ℕ) (put : Result PutIf Error) → PutsIf d old new key seen value put → Remakes d old new (log.PutIf key seen value) (failed put)
  put_if_remade key seen value (Ok answer) is = record {
    made = (Ok answer, refl, is);
    map = put_if_map key seen value (Ok answer) is;
    refusal = λ m holds x told. absurd (cc told);
    fault = λ told. absurd (cc told);
    stays = is.stays;
  }
  put_if_remade key seen value (Err e) is = record {
    made = (Err e, refl, is);
    map = put_if_map key seen value (Err e) is;
    refusal = λ m holds x told. only_put (shape_of old) key value (put_if_outcome (shape_of old) m key seen) e x (is.refusal m holds) told;
    fault = λ told. subst (λ (x : Error). PutCause (shape_of old) old.store.count old.store.last key value (faults_of d old) (faults_of d new) x) (told_is e error.Device told) is.cause;
    stays = is.stays;
  }

  pub delete_remade : (key : List ℕ) (had : Result (Option (List ℕ)) Error) → Deletes d old new key had → Remakes d old new (log.Delete key) (failed had)
  delete_remade key (Ok answer) is = record {
    made = (Ok answer, refl, is);
    map = delete_map key (Ok answer) is;
    refusal = λ m holds x told. absurd (cc told);
    fault = λ told. absurd (cc told);
    stays = is.stays;
  }
  delete_remade key (Err e) is = record {
    made = (Err e, refl, is);
    map = delete_map key (Err e) is;
    refusal = λ m holds x told. only_read (shape_of old) key e x (is.refusal m holds) told;
    fault = λ told. subst (λ (x : Error). DeleteCause (shape_of old) key (faults_of d old) (faults_of d new) x) (told_is e error.Device told) is.cause;
    stays = is.stays;
  }

  -- an error that is told as another value
  pub as_failed : (it : log.Logged) (why told : Option Error) → why ≡ told → Remakes d old new it told → Remakes d old new it why
  as_failed it why told is made = subst (λ (w : Option Error). Remakes d old new it w) (sym is) made
