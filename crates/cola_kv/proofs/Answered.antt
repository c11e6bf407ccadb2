-- What the calls of a store as a table say, as the records of the calls of an open store.
use Rattle.std.proofs.Common.{◌≡◌, ℕ, ◌+◌, ◌-◌, ◌≤◌, Bool, true, false, List, Option, Result, Ok, Err, refl, sym, ap, subst, arith}
use Rattle.std.specs.Result.{IsErrAnd}
use Rattle.cola_cell.specs.declared.cell.Item.{Item}
use Rattle.cola_cell.specs.declared.fault.ReadFault.{ReadFault}
use Rattle.cola_cell.specs.declared.fault.ReadFault.TheVariants as read
use Rattle.cola_cell.specs.declared.fault.StepFault.{StepFault}
use Rattle.cola_cell.specs.declared.fault.StepFault.TheVariants as step
use Rattle.cola_device.specs.declared.device.Device as device
use Rattle.cola_run.specs.Store as run
use Rattle.cola_spec.specs.Map.{Map, Shape, PutOutcome, is_key, is_value, put_outcome, put_if_outcome}
use Rattle.cola_table.specs.declared.Put.{Put}
use Rattle.cola_table.specs.declared.PutIf.{PutIf}
use Rattle.cola_table.specs.declared.PutFault.{PutFault}
use Rattle.cola_table.specs.declared.PutFault.TheVariants as fault
use Rattle.cola_table.specs.Replies.{put_reply, put_if_reply, delete_reply, get_reply, stamp_reply, put_refused, read_failure, step_failure}
use Rattle.cola_table.specs.Answers.{PutRefused, PutAnswers, PutIfAnswers, DeleteAnswers, GetAnswers, StampAnswers, OnlyDevice, OnlyDeviceRead, PutFaults, StepFaults, ReadFaults}
use Rattle.cola_cell.specs.Spent as spending
use Rattle.cola_cell.specs.Spent.{Spent}
use Rattle.cola_spec.specs.Bounds.{get_bound, put_bound}
use Rattle.cola_spec.specs.Command as command
use Rattle.cola_spec.specs.Command.{Command}
use Rattle.cola_spec.specs.Reply as reply
use Rattle.cola_store.specs.Calls.{ReadsWithin, Searches, worn_at}
use Rattle.cola_store.specs.Store.{kept_of}
use Rattle.cola_store.proofs.Storing.{no_tick}
use Rattle.cola_kv.specs.declared.error.Error.{Error}
use Rattle.cola_kv.specs.declared.error.Error.TheVariants.{KeyLength, ValueLength}
use Rattle.cola_kv.specs.declared.kv.Kv.{Kv}
use Rattle.cola_kv.specs.Errors.{of_read, of_step, of_put}
use Rattle.cola_kv.specs.Kv.{Holds, Stays, shape_of, levels_of, faults_of}
use Rattle.cola_kv.specs.Causes.{ReadCause, DeleteCause, PutCause, IsReadRefusal, IsPutRefusal, IsStepRefusal}
use Rattle.cola_kv.specs.Calls.{Gets, Stamps, Deletes, Puts, PutsIf, Replies, StoreRefuses, Ticks, Ticked, Spends, ReadsFew, TransfersFew, unticked}
use Rattle.cola_kv.proofs.Moved.{searched, put-moved, put-if-moved, delete-moved}
use Rattle.cola_kv.proofs.Refusing.{put-full, put-worn, put-if-full, put-if-worn}

-- the answer of a call below, as one of the store's
abbrev pub answer_of : {A E : Type 0} → (E → Error) → Result (A × ℕ) E → Result A Error
answer_of error_of (Ok answer) = Ok answer.0
answer_of error_of (Err e) = Err (error_of e)

-- no test holds and fails
pub differ : (b : Bool) → b ≡ true → b ≡ false → ⊥
differ b holds fails = cc

-- Causes

read-cause : (A : Type 0) (shape : Shape) (key : List ℕ) (before now : ℕ) (f : ReadFault) → ReadFaults {A = A} (Err f) before now → ReadCause shape key before now (of_read f)
read-cause A shape key before now read.Device faults = faults
read-cause A shape key before now (read.BadCell cell) faults = faults

read-refusal : (shape : Shape) (key : List ℕ) (f : ReadFault) → OnlyDeviceRead f → IsReadRefusal shape key (of_read f)
read-refusal shape key read.Device only = tt
read-refusal shape key (read.BadCell cell) only = only

pub read-step-refusal : (f : ReadFault) → OnlyDeviceRead f → IsStepRefusal (of_read f)
read-step-refusal read.Device only = tt
read-step-refusal (read.BadCell cell) only = only

step-cause : (A : Type 0) (shape : Shape) (key : List ℕ) (before now : ℕ) (f : StepFault) → StepFaults {A = A} (Err f) before now → DeleteCause shape key before now (of_step f)
step-cause A shape key before now step.Device faults = faults
step-cause A shape key before now (step.BadCell cell) faults = faults
step-cause A shape key before now (step.Overfull level) faults = faults

step-refusal : (shape : Shape) (key : List ℕ) (f : StepFault) → OnlyDevice f → IsReadRefusal shape key (of_step f)
step-refusal shape key step.Device only = tt
step-refusal shape key (step.BadCell cell) only = only
step-refusal shape key (step.Overfull level) only = only

put-refusal : (shape : Shape) (key value : List ℕ) (outcome : PutOutcome) (f : PutFault) → PutRefused outcome f → IsPutRefusal shape key value outcome (of_put f)
put-refusal shape key value outcome fault.Full refused = refused
put-refusal shape key value outcome fault.Worn refused = refused
put-refusal shape key value outcome fault.Device refused = tt
put-refusal shape key value outcome (fault.BadCell cell) refused = refused
put-refusal shape key value outcome (fault.Overfull level) refused = refused

-- a put that the store refused as full or worn is one that it may so refuse
put-cause : (A : Type 0) (shape : Shape) (count last : ℕ) (key value : List ℕ) (before now : ℕ) (f : PutFault) → (f ≡ fault.Full → shape.limit ≤ count) → (f ≡ fault.Worn → worn_at shape last ≡ true) → PutFaults {A = A} (Err f) before now → PutCause shape count last key value before now (of_put f)
put-cause A shape count last key value before now fault.Full full worn faults = (faults, full refl)
put-cause A shape count last key value before now fault.Worn full worn faults = (faults, worn refl)
put-cause A shape count last key value before now fault.Device full worn faults = faults
put-cause A shape count last key value before now (fault.BadCell cell) full worn faults = faults
put-cause A shape count last key value before now (fault.Overfull level) full worn faults = faults

-- the ticks between two counts of a ledger are those that are told, or few
pub spends-told : (from to before after ticks : ℕ) → after ≡ before + ticks → spending.Ticks from to (after - before) → spending.Ticks from to ticks
spends-told from to before after ticks counted ticked = let between : after - before ≡ ticks = omega (arith, counted) in subst (λ (n : ℕ). spending.Ticks from to n) between ticked

pub spends-few : (from to before after most : ℕ) → after ≤ before + most → spending.Ticks from to (after - before) → (ticks : ℕ) × (ticks ≤ most) × spending.Ticks from to ticks
spends-few from to before after most within ticked = (after - before, omega (arith, within), ticked)

-- nothing was turned to
no-turn : (spent : Spent) (most : ℕ) → ReadsWithin spent spent most
no-turn spent most = record { turned_stays = omega arith; turned_rises = omega arith; written_is = refl }

module _ {D : Type 0} (d : device.Ghosts D) where
  -- what stays over a call
  pub stays-of : (old new : Kv D d) → kept_of d.bytes d.counts d.kept new.store ≡ kept_of d.bytes d.counts d.kept old.store → new.cache ≡ old.cache → new.store.account.opened ≡ old.store.account.opened → faults_of d old ≤ faults_of d new → Stays d old new
  stays-of old new kept cache opened faults = record {
    geometry_is = ap (λ (k : run.Kept d.Kept). k.geometry) kept;
    cache_is = cache;
    opened_is = opened;
    kept = ap (λ (k : run.Kept d.Kept). k.device) kept;
    faults_stay = faults;
  }

  pub stays-same : (kv : Kv D d) → Stays d kv kv
  stays-same kv = record { geometry_is = refl; cache_is = refl; opened_is = refl; kept = refl; faults_stay = omega arith }

  reads-none : (kv : Kv D d) → ReadsFew d kv kv
  reads-none kv = record { most = no-turn _ _; on_map = λ m holds. no-turn _ _ }

  transfers-none : (kv : Kv D d) → TransfersFew d kv kv
  transfers-none kv = record { transfers = omega arith }

  spends-none : (kv : Kv D d) (most : ℕ) → (ticks : ℕ) × (ticks ≤ most) × Ticked d kv kv ticks
  spends-none kv most = (0, omega arith, no_tick _)

  -- What the table answered where it refused

  read-given : (old new : Kv D d) (request : Command) (f : ReadFault) → Replies d old new request (reply.Failed (read_failure f)) → StoreRefuses d old new request (of_read f)
  read-given old new request read.Device given = given
  read-given old new request (read.BadCell cell) given = given

  step-given : (old new : Kv D d) (request : Command) (f : StepFault) → Replies d old new request (reply.Failed (step_failure f)) → StoreRefuses d old new request (of_step f)
  step-given old new request step.Device given = given
  step-given old new request (step.BadCell cell) given = given
  step-given old new request (step.Overfull level) given = given

  put-given : (old new : Kv D d) (request : Command) (f : PutFault) → Replies d old new request (put_refused f) → StoreRefuses d old new request (of_put f)
  put-given old new request fault.Full given = given
  put-given old new request fault.Worn given = given
  put-given old new request fault.Device given = given
  put-given old new request (fault.BadCell cell) given = given
  put-given old new request (fault.Overfull level) given = given

  -- Keys and values that are none of the store's

  pub get-short : (kv : Kv D d) (key : List ℕ) (error : Error) → error ≡ KeyLength → is_key (shape_of kv) key ≡ false → Gets d kv kv key (Err error)
  get-short kv key error is short = subst (λ (e : Error). Gets d kv kv key (Err e)) (sym is) (record {
    given = refl;
    answer = λ m holds. tt;
    map_stays = λ m holds. holds;
    refusal = λ m holds. short;
    short_key = λ _. (refl, refl);
    cause = short;
    no_step = refl;
    ticks = refl;
    spends = spends-none kv _;
    blocks = reads-none kv;
    stays = stays-same kv;
  })

  pub stamp-short : (kv : Kv D d) (key : List ℕ) (error : Error) → error ≡ KeyLength → is_key (shape_of kv) key ≡ false → Stamps d kv kv key (Err error)
  stamp-short kv key error is short = subst (λ (e : Error). Stamps d kv kv key (Err e)) (sym is) (record {
    given = refl;
    answer = λ m holds. tt;
    map_stays = λ m holds. holds;
    refusal = λ m holds. short;
    short_key = λ _. (refl, refl);
    cause = short;
    no_step = refl;
    ticks = refl;
    spends = spends-none kv _;
    blocks = reads-none kv;
    stays = stays-same kv;
  })

  pub delete-short : (kv : Kv D d) (key : List ℕ) (error : Error) → error ≡ KeyLength → is_key (shape_of kv) key ≡ false → Deletes d kv kv key (Err error)
  delete-short kv key error is short = subst (λ (e : Error). Deletes d kv kv key (Err e)) (sym is) (record {
    given = refl;
    answer = λ m holds. tt;
    map_after = λ m holds. tt;
    map_stays = λ m holds. holds;
    refusal = λ m holds. short;
    short_key = λ _. (refl, refl);
    cause = short;
    one_step = omega arith;
    ticks = refl;
    spends = spends-none kv _;
    blocks = transfers-none kv;
    stays = stays-same kv;
  })

  -- a put whose key or value does not fit
  module _ (kv : Kv D d) (key value : List ℕ) where
    pub put-short : (error : Error) → error ≡ KeyLength → is_key (shape_of kv) key ≡ false → Puts d kv kv key value (Err error)
    put-short error is short = subst (λ (e : Error). Puts d kv kv key value (Err e)) (sym is) (record {
      given = refl;
      answer = λ m holds. tt;
      map_after = λ m holds. tt;
      map_stays = λ m holds. holds;
      refusal = λ m holds. short;
      short_key = λ _. (refl, refl);
      long_value = λ e _. absurd (differ _ e short);
      cause = short;
      one_step = omega arith;
      ticks = refl;
      spends = spends-none kv _;
      blocks = transfers-none kv;
      stays = stays-same kv;
    })

    pub put-long : (error : Error) → error ≡ ValueLength → is_key (shape_of kv) key ≡ true → is_value (shape_of kv) value ≡ false → Puts d kv kv key value (Err error)
    put-long error is fits long = subst (λ (e : Error). Puts d kv kv key value (Err e)) (sym is) (record {
      given = refl;
      answer = λ m holds. tt;
      map_after = λ m holds. tt;
      map_stays = λ m holds. holds;
      refusal = λ m holds. (fits, long);
      short_key = λ e. absurd (differ _ fits e);
      long_value = λ _ _. (refl, refl);
      cause = (fits, long);
      one_step = omega arith;
      ticks = refl;
      spends = spends-none kv _;
      blocks = transfers-none kv;
      stays = stays-same kv;
    })

    module _ (seen : ℕ) where
      pub put-if-short : (error : Error) → error ≡ KeyLength → is_key (shape_of kv) key ≡ false → PutsIf d kv kv key seen value (Err error)
      put-if-short error is short = subst (λ (e : Error). PutsIf d kv kv key seen value (Err e)) (sym is) (record {
        given = refl;
        answer = λ m holds. tt;
        map_after = λ m holds. tt;
        map_stays = λ m holds. holds;
        refusal = λ m holds. short;
        short_key = λ _. (refl, refl);
        long_value = λ e _. absurd (differ _ e short);
        cause = short;
        one_step = omega arith;
        ticks = refl;
        spends = spends-none kv _;
        blocks = transfers-none kv;
        stays = stays-same kv;
      })

      pub put-if-long : (error : Error) → error ≡ ValueLength → is_key (shape_of kv) key ≡ true → is_value (shape_of kv) value ≡ false → PutsIf d kv kv key seen value (Err error)
      put-if-long error is fits long = subst (λ (e : Error). PutsIf d kv kv key seen value (Err e)) (sym is) (record {
        given = refl;
        answer = λ m holds. tt;
        map_after = λ m holds. tt;
        map_stays = λ m holds. holds;
        refusal = λ m holds. (fits, long);
        short_key = λ e. absurd (differ _ fits e);
        long_value = λ _ _. (refl, refl);
        cause = (fits, long);
        one_step = omega arith;
        ticks = refl;
        spends = spends-none kv _;
        blocks = transfers-none kv;
        stays = stays-same kv;
      })

  -- Calls that were made

  -- a search turns to few blocks
  few : (old new : Kv D d) (key : List ℕ) (search : Result (Option Item) ReadFault) → Searches d.bytes d.counts old.store new.store key search → ReadsFew d old new
  few old new key search s = record { most = s.reads; on_map = s.on_map }

  module _ (old new : Kv D d) (key : List ℕ) (fits : is_key (shape_of old) key ≡ true) (cache : new.cache ≡ old.cache)
      (kept : kept_of d.bytes d.counts d.kept new.store ≡ kept_of d.bytes d.counts d.kept old.store) (faults_stay : faults_of d old ≤ faults_of d new) where
    pub gets : (result : Result (Option (List ℕ) × ℕ) ReadFault) → ((m : Map) → Holds d old m → GetAnswers m key (Holds d new) result) → Replies d old new (command.Get key) (get_reply result) →
        ReadFaults result (faults_of d old) (faults_of d new) → Ticks d old new (get_bound (levels_of old)) (answer_of of_read result) → Spends d old new (get_bound (levels_of old)) (answer_of of_read result) → Gets d old new key (answer_of of_read result)
    gets (Ok answer) answers given faults ticks spends =
        let moved = searched d.bytes d.counts old.store new.store key given.search given.searches in
        record {
          given = given;
          answer = λ m holds. (answers m holds).0;
          map_stays = λ m holds. (answers m holds).1;
          refusal = λ m holds. tt;
          short_key = λ e. absurd (differ _ fits e);
          cause = tt;
          no_step = moved.steps;
          ticks = ticks;
          spends = spends;
          blocks = few old new key given.search given.searches;
          stays = stays-of old new kept cache moved.opened faults_stay;
        }
    gets (Err f) answers given faults ticks spends =
        let moved = searched d.bytes d.counts old.store new.store key given.search given.searches in
        record {
          given = read-given old new (command.Get key) f given;
          answer = λ m holds. tt;
          map_stays = λ m holds. (answers m holds).1;
          refusal = λ m holds. read-refusal (shape_of old) key f (answers m holds).0;
          short_key = λ e. absurd (differ _ fits e);
          cause = read-cause (Option (List ℕ) × ℕ) (shape_of old) key (faults_of d old) (faults_of d new) f faults;
          no_step = moved.steps;
          ticks = ticks;
          spends = spends;
          blocks = few old new key given.search given.searches;
          stays = stays-of old new kept cache moved.opened faults_stay;
        }

    pub stamps : (result : Result (Option ℕ × ℕ) ReadFault) → ((m : Map) → Holds d old m → StampAnswers m key (Holds d new) result) → Replies d old new (command.Stamp key) (stamp_reply result) →
        ReadFaults result (faults_of d old) (faults_of d new) → Ticks d old new (get_bound (levels_of old)) (answer_of of_read result) → Spends d old new (get_bound (levels_of old)) (answer_of of_read result) → Stamps d old new key (answer_of of_read result)
    stamps (Ok answer) answers given faults ticks spends =
        let moved = searched d.bytes d.counts old.store new.store key given.search given.searches in
        record {
          given = given;
          answer = λ m holds. (answers m holds).0;
          map_stays = λ m holds. (answers m holds).1;
          refusal = λ m holds. tt;
          short_key = λ e. absurd (differ _ fits e);
          cause = tt;
          no_step = moved.steps;
          ticks = ticks;
          spends = spends;
          blocks = few old new key given.search given.searches;
          stays = stays-of old new kept cache moved.opened faults_stay;
        }
    stamps (Err f) answers given faults ticks spends =
        let moved = searched d.bytes d.counts old.store new.store key given.search given.searches in
        record {
          given = read-given old new (command.Stamp key) f given;
          answer = λ m holds. tt;
          map_stays = λ m holds. (answers m holds).1;
          refusal = λ m holds. read-refusal (shape_of old) key f (answers m holds).0;
          short_key = λ e. absurd (differ _ fits e);
          cause = read-cause (Option ℕ × ℕ) (shape_of old) key (faults_of d old) (faults_of d new) f faults;
          no_step = moved.steps;
          ticks = ticks;
          spends = spends;
          blocks = few old new key given.search given.searches;
          stays = stays-of old new kept cache moved.opened faults_stay;
        }

    pub deletes : (result : Result (Option (List ℕ) × ℕ) StepFault) → ((m : Map) → Holds d old m → DeleteAnswers m key (Holds d new) result) → Replies d old new (command.Del key) (delete_reply result) →
        StepFaults result (faults_of d old) (faults_of d new) → Ticks d old new (put_bound (levels_of old)) (answer_of of_step result) → Spends d old new (put_bound (levels_of old)) (answer_of of_step result) → Deletes d old new key (answer_of of_step result)
    deletes (Ok answer) answers given faults ticks spends =
        let moved = delete-moved d.bytes d.counts old.store new.store key _ given.0 in
        record {
          given = given;
          answer = λ m holds. (answers m holds).0;
          map_after = λ m holds. (answers m holds).1;
          map_stays = λ m holds. tt;
          refusal = λ m holds. tt;
          short_key = λ e. absurd (differ _ fits e);
          cause = tt;
          one_step = moved.steps;
          ticks = ticks;
          spends = spends;
          blocks = given.1;
          stays = stays-of old new kept cache moved.opened faults_stay;
        }
    deletes (Err f) answers given faults ticks spends =
        let moved = delete-moved d.bytes d.counts old.store new.store key _ given.0 in
        record {
          given = step-given old new (command.Del key) f given;
          answer = λ m holds. tt;
          map_after = λ m holds. tt;
          map_stays = λ m holds. (answers m holds).1;
          refusal = λ m holds. step-refusal (shape_of old) key f (answers m holds).0;
          short_key = λ e. absurd (differ _ fits e);
          cause = step-cause (Option (List ℕ) × ℕ) (shape_of old) key (faults_of d old) (faults_of d new) f faults;
          one_step = moved.steps;
          ticks = ticks;
          spends = spends;
          blocks = given.1;
          stays = stays-of old new kept cache moved.opened faults_stay;
        }

    module _ (value : List ℕ) (value_fits : is_value (shape_of old) value ≡ true) where
      pub puts : (result : Result (Put × ℕ) PutFault) → ((m : Map) → Holds d old m → PutAnswers (shape_of old) m key value (Holds d new) result) → Replies d old new (command.Put key value) (put_reply result) →
          PutFaults result (faults_of d old) (faults_of d new) → Ticks d old new (put_bound (levels_of old)) (answer_of of_put result) → Spends d old new (put_bound (levels_of old)) (answer_of of_put result) → Puts d old new key value (answer_of of_put result)
      puts (Ok answer) answers given faults ticks spends =
          let moved = put-moved d.bytes d.counts old.store new.store key value _ given.0 in
          record {
            given = given;
            answer = λ m holds. (answers m holds).0;
            map_after = λ m holds. (answers m holds).1;
            map_stays = λ m holds. tt;
            refusal = λ m holds. tt;
            short_key = λ e. absurd (differ _ fits e);
            long_value = λ _ e. absurd (differ _ value_fits e);
            cause = tt;
            one_step = moved.steps;
            ticks = ticks;
            spends = spends;
            blocks = given.1;
            stays = stays-of old new kept cache moved.opened faults_stay;
          }
      puts (Err f) answers given faults ticks spends =
          let moved = put-moved d.bytes d.counts old.store new.store key value _ given.0 in
          record {
            given = put-given old new (command.Put key value) f given;
            answer = λ m holds. tt;
            map_after = λ m holds. tt;
            map_stays = λ m holds. (answers m holds).1;
            refusal = λ m holds. put-refusal (shape_of old) key value (put_outcome (shape_of old) m key) f (answers m holds).0;
            short_key = λ e. absurd (differ _ fits e);
            long_value = λ _ e. absurd (differ _ value_fits e);
            cause = put-cause (Put × ℕ) (shape_of old) old.store.count old.store.last key value (faults_of d old) (faults_of d new) f
                (λ e. put-full d.bytes d.counts old.store new.store key value (subst (λ (g : PutFault). Replies d old new (command.Put key value) (put_refused g)) e given).0)
                (λ e. put-worn d.bytes d.counts old.store new.store key value (subst (λ (g : PutFault). Replies d old new (command.Put key value) (put_refused g)) e given).0) faults;
            one_step = moved.steps;
            ticks = ticks;
            spends = spends;
            blocks = given.1;
            stays = stays-of old new kept cache moved.opened faults_stay;
          }

      pub puts-if : (seen : ℕ) (result : Result (PutIf × ℕ) PutFault) → ((m : Map) → Holds d old m → PutIfAnswers (shape_of old) m key seen value (Holds d new) result) → Replies d old new (command.PutIf key seen value) (put_if_reply result) →
          PutFaults result (faults_of d old) (faults_of d new) → Ticks d old new (put_bound (levels_of old)) (answer_of of_put result) → Spends d old new (put_bound (levels_of old)) (answer_of of_put result) → PutsIf d old new key seen value (answer_of of_put result)
      puts-if seen (Ok answer) answers given faults ticks spends =
          let moved = put-if-moved d.bytes d.counts old.store new.store key seen value _ given.0 in
          record {
            given = given;
            answer = λ m holds. (answers m holds).0;
            map_after = λ m holds. (answers m holds).1;
            map_stays = λ m holds. tt;
            refusal = λ m holds. tt;
            short_key = λ e. absurd (differ _ fits e);
            long_value = λ _ e. absurd (differ _ value_fits e);
            cause = tt;
            one_step = moved.steps;
            ticks = ticks;
            spends = spends;
            blocks = given.1;
            stays = stays-of old new kept cache moved.opened faults_stay;
          }
      puts-if seen (Err f) answers given faults ticks spends =
          let moved = put-if-moved d.bytes d.counts old.store new.store key seen value _ given.0 in
          record {
            given = put-given old new (command.PutIf key seen value) f given;
            answer = λ m holds. tt;
            map_after = λ m holds. tt;
            map_stays = λ m holds. (answers m holds).1;
            refusal = λ m holds. put-refusal (shape_of old) key value (put_if_outcome (shape_of old) m key seen) f (answers m holds).0;
            short_key = λ e. absurd (differ _ fits e);
            long_value = λ _ e. absurd (differ _ value_fits e);
            cause = put-cause (PutIf × ℕ) (shape_of old) old.store.count old.store.last key value (faults_of d old) (faults_of d new) f
                (λ e. put-if-full d.bytes d.counts old.store new.store key seen value (subst (λ (g : PutFault). Replies d old new (command.PutIf key seen value) (put_refused g)) e given).0)
                (λ e. put-if-worn d.bytes d.counts old.store new.store key seen value (subst (λ (g : PutFault). Replies d old new (command.PutIf key seen value) (put_refused g)) e given).0) faults;
            one_step = moved.steps;
            ticks = ticks;
            spends = spends;
            blocks = given.1;
            stays = stays-of old new kept cache moved.opened faults_stay;
          }

  -- the same of the bytes that the key and the value were made of, and of an error that `?` hands on
  module _ (old new : Kv D d) (key' key value' value : List ℕ) where
    pub puts-at : (result : Result Put Error) → key' ≡ key → value' ≡ value → Puts d old new key' value' result → Puts d old new key value result
    puts-at result e f is = subst (λ (v : List ℕ). Puts d old new key v result) f (subst (λ (k : List ℕ). Puts d old new k value' result) e is)

    pub puts-if-at : (seen : ℕ) (result : Result PutIf Error) → key' ≡ key → value' ≡ value → PutsIf d old new key' seen value' result → PutsIf d old new key seen value result
    puts-if-at seen result e f is = subst (λ (v : List ℕ). PutsIf d old new key seen v result) f (subst (λ (k : List ℕ). PutsIf d old new k seen value' result) e is)

  module _ (old new : Kv D d) (key value : List ℕ) where
    pub puts-err : (result : Result (Put × ℕ) Error) (error : Error) → IsErrAnd result (λ e. e ≡ error) → Puts d old new key value (Err error) → Puts d old new key value (unticked result)
    puts-err (Ok answer) error so is = absurd so
    puts-err (Err e) error so is = subst (λ (x : Error). Puts d old new key value (Err x)) (sym so) is

    pub puts-if-err : (seen : ℕ) (result : Result (PutIf × ℕ) Error) (error : Error) → IsErrAnd result (λ e. e ≡ error) → PutsIf d old new key seen value (Err error) → PutsIf d old new key seen value (unticked result)
    puts-if-err seen (Ok answer) error so is = absurd so
    puts-if-err seen (Err e) error so is = subst (λ (x : Error). PutsIf d old new key seen value (Err x)) (sym so) is

  module _ (old new : Kv D d) (key' key : List ℕ) where
    pub gets-at : (result : Result (Option (List ℕ)) Error) → key' ≡ key → Gets d old new key' result → Gets d old new key result
    gets-at result e is = subst (λ (k : List ℕ). Gets d old new k result) e is

    pub stamps-at : (result : Result (Option ℕ) Error) → key' ≡ key → Stamps d old new key' result → Stamps d old new key result
    stamps-at result e is = subst (λ (k : List ℕ). Stamps d old new k result) e is

    pub deletes-at : (result : Result (Option (List ℕ)) Error) → key' ≡ key → Deletes d old new key' result → Deletes d old new key result
    deletes-at result e is = subst (λ (k : List ℕ). Deletes d old new k result) e is

  module _ (old new : Kv D d) (key : List ℕ) where
    pub gets-err : (result : Result (Option (List ℕ) × ℕ) Error) (error : Error) → IsErrAnd result (λ e. e ≡ error) → Gets d old new key (Err error) → Gets d old new key (unticked result)
    gets-err (Ok answer) error so is = absurd so
    gets-err (Err e) error so is = subst (λ (x : Error). Gets d old new key (Err x)) (sym so) is

    pub stamps-err : (result : Result (Option ℕ × ℕ) Error) (error : Error) → IsErrAnd result (λ e. e ≡ error) → Stamps d old new key (Err error) → Stamps d old new key (unticked result)
    stamps-err (Ok answer) error so is = absurd so
    stamps-err (Err e) error so is = subst (λ (x : Error). Stamps d old new key (Err x)) (sym so) is

    pub deletes-err : (result : Result (Option (List ℕ) × ℕ) Error) (error : Error) → IsErrAnd result (λ e. e ≡ error) → Deletes d old new key (Err error) → Deletes d old new key (unticked result)
    deletes-err (Ok answer) error so is = absurd so
    deletes-err (Err e) error so is = subst (λ (x : Error). Deletes d old new key (Err x)) (sym so) is
