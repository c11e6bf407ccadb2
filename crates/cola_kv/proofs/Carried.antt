-- Each call of an open store, as a call of a list.
use Rattle.std.proofs.Common.{◌≡◌, ℕ, ◌+◌, ◌≤◌, List, Option, Result, Ok, Err, refl, ap, subst, arith}
use Rattle.std.specs.Borrow.{Bor}
use Rattle.cola_outside.specs.Faults.{Rose}
use Rattle.cola_device.specs.declared.device.Device as device
use Rattle.cola_spec.specs.Map.{Shape}
use Rattle.cola_spec.specs.Reply as reply
use Rattle.cola_table.specs.declared.Put.{Put}
use Rattle.cola_table.specs.declared.PutIf.{PutIf}
use Rattle.cola_kv.specs.declared.error.Error.{Error}
use Rattle.cola_kv.specs.declared.error.Error.TheVariants.{Device}
use Rattle.cola_kv.specs.declared.list.Answer.{Answer}
use Rattle.cola_kv.specs.declared.list.Answer.TheVariants as answer
use Rattle.cola_kv.specs.declared.list.Call.TheVariants as call
use Rattle.cola_kv.specs.declared.kv.Kv.{Kv}
use Rattle.cola_kv.specs.Causes.{ReadCause, DeleteCause, PutCause}
use Rattle.cola_kv.specs.Calls.{Gets, Stamps, Deletes, Puts, PutsIf}
use Rattle.cola_kv.specs.Kv.{shape_of, faults_of, steps_of}
use Rattle.cola_kv.specs.Listed.{Carries, told_as}

same-step : (a b : ℕ) → a ≡ b → a ≤ b + 1
same-step a b e = omega (arith, e)

-- an error that is a fault has its cause
read-fault : (shape : Shape) (key : List ℕ) (before now : ℕ) (error : Error) → ReadCause shape key before now error → error ≡ Device → Rose before now
read-fault shape key before now error cause is = subst (λ (e : Error). ReadCause shape key before now e) is cause

delete-fault : (shape : Shape) (key : List ℕ) (before now : ℕ) (error : Error) → DeleteCause shape key before now error → error ≡ Device → Rose before now
delete-fault shape key before now error cause is = subst (λ (e : Error). DeleteCause shape key before now e) is cause

put-fault : (shape : Shape) (count last : ℕ) (key value : List ℕ) (before now : ℕ) (error : Error) → PutCause shape count last key value before now error → error ≡ Device → Rose before now
put-fault shape count last key value before now error cause is = subst (λ (e : Error). PutCause shape count last key value before now e) is cause

the-error : (result : Result Answer Error) (error other : Error) → result ≡ Err error → result ≡ Err other → error ≡ other
the-error result error other is e = cc

module _ {D : Type 0} (d : device.Ghosts D) (old new : Kv D d) (key : Bor (List ℕ)) where
  pub puts-carried : (value : Bor (List ℕ)) (result : Result Put Error) → Puts d old new key.now value.now result → Carries d old new (call.Put key value) (told_as answer.Put result)
  puts-carried value (Ok a) is = record {
    made = (Ok a, refl, is);
    answer = λ m holds. ap reply.Put (is.answer m holds);
    map = λ m holds. is.map_after m holds;
    fault = λ e. cc;
    one_step = is.one_step;
    stays = is.stays;
  }
  puts-carried value (Err error) is = record {
    made = (Err error, refl, is);
    answer = λ m holds. is.refusal m holds;
    map = λ m holds. is.map_stays m holds;
    fault = λ e. put-fault (shape_of old) old.store.count old.store.last key.now value.now (faults_of d old) (faults_of d new) error is.cause (the-error (Err error) error Device refl e);
    one_step = is.one_step;
    stays = is.stays;
  }

  pub puts-if-carried : (seen : ℕ) (value : Bor (List ℕ)) (result : Result PutIf Error) → PutsIf d old new key.now seen value.now result → Carries d old new (call.PutIf key seen value) (told_as answer.PutIf result)
  puts-if-carried seen value (Ok a) is = record {
    made = (Ok a, refl, is);
    answer = λ m holds. ap reply.Put (is.answer m holds);
    map = λ m holds. is.map_after m holds;
    fault = λ e. cc;
    one_step = is.one_step;
    stays = is.stays;
  }
  puts-if-carried seen value (Err error) is = record {
    made = (Err error, refl, is);
    answer = λ m holds. is.refusal m holds;
    map = λ m holds. is.map_stays m holds;
    fault = λ e. put-fault (shape_of old) old.store.count old.store.last key.now value.now (faults_of d old) (faults_of d new) error is.cause (the-error (Err error) error Device refl e);
    one_step = is.one_step;
    stays = is.stays;
  }

  pub deletes-carried : (result : Result (Option (List ℕ)) Error) → Deletes d old new key.now result → Carries d old new (call.Delete key) (told_as answer.Deleted result)
  deletes-carried (Ok a) is = record {
    made = (Ok a, refl, is);
    answer = λ m holds. ap reply.Deleted (is.answer m holds);
    map = λ m holds. is.map_after m holds;
    fault = λ e. cc;
    one_step = is.one_step;
    stays = is.stays;
  }
  deletes-carried (Err error) is = record {
    made = (Err error, refl, is);
    answer = λ m holds. is.refusal m holds;
    map = λ m holds. is.map_stays m holds;
    fault = λ e. delete-fault (shape_of old) key.now (faults_of d old) (faults_of d new) error is.cause (the-error (Err error) error Device refl e);
    one_step = is.one_step;
    stays = is.stays;
  }

  pub gets-carried : (result : Result (Option (List ℕ)) Error) → Gets d old new key.now result → Carries d old new (call.Get key) (told_as answer.Got result)
  gets-carried (Ok a) is = record {
    made = (Ok a, refl, is);
    answer = λ m holds. ap reply.Got (is.answer m holds);
    map = λ m holds. is.map_stays m holds;
    fault = λ e. cc;
    one_step = same-step (steps_of new) (steps_of old) is.no_step;
    stays = is.stays;
  }
  gets-carried (Err error) is = record {
    made = (Err error, refl, is);
    answer = λ m holds. is.refusal m holds;
    map = λ m holds. is.map_stays m holds;
    fault = λ e. read-fault (shape_of old) key.now (faults_of d old) (faults_of d new) error is.cause (the-error (Err error) error Device refl e);
    one_step = same-step (steps_of new) (steps_of old) is.no_step;
    stays = is.stays;
  }

  pub stamps-carried : (result : Result (Option ℕ) Error) → Stamps d old new key.now result → Carries d old new (call.Stamp key) (told_as answer.Stamped result)
  stamps-carried (Ok a) is = record {
    made = (Ok a, refl, is);
    answer = λ m holds. ap reply.Stamped (is.answer m holds);
    map = λ m holds. is.map_stays m holds;
    fault = λ e. cc;
    one_step = same-step (steps_of new) (steps_of old) is.no_step;
    stays = is.stays;
  }
  stamps-carried (Err error) is = record {
    made = (Err error, refl, is);
    answer = λ m holds. is.refusal m holds;
    map = λ m holds. is.map_stays m holds;
    fault = λ e. read-fault (shape_of old) key.now (faults_of d old) (faults_of d new) error is.cause (the-error (Err error) error Device refl e);
    one_step = same-step (steps_of new) (steps_of old) is.no_step;
    stays = is.stays;
  }
