-- What a range of a store as a table says, as the records of a range of an open store.
use Rattle.std.proofs.Common.{◌≡◌, ◌⊎◌, inl, inr, ℕ, ◌<◌, ◌≤◌, true, false, List, Option, Some, None, Result, Ok, Err, refl, sym, ap, subst, arith}
use Rattle.std.specs.Option.{IsSomeAnd}
use Rattle.std.specs.Result.{IsErrAnd}
use Rattle.std.specs.Prelude.{IfSome, IfOk, OnErr, OnSome}
use Rattle.cola_cell.specs.declared.fault.ReadFault.{ReadFault}
use Rattle.cola_cell.specs.declared.fault.ReadFault.TheVariants as read
use Rattle.cola_cell.specs.Spent.{Spent}
use Rattle.cola_cursor.specs.declared.cursor.Cursor.{Cursor}
use Rattle.cola_device.specs.declared.device.Device as device
use Rattle.cola_spec.specs.Map.{Map, Shape, is_key}
use Rattle.cola_table.specs.Answers.{RangeAnswers, NextAnswers, ReadFaults, OnlyDeviceRead}
use Rattle.cola_store.specs.declared.account.Account.{Account}
use Rattle.cola_store.specs.Store.{kept_of}
use Rattle.cola_store.specs.Walks as walks
use Rattle.cola_store.specs.Walks.{TurnsWithin, cells_ahead, left_of}
use Rattle.cola_kv.specs.declared.error.Error.{Error}
use Rattle.cola_kv.specs.declared.error.Error.TheVariants.{KeyLength}
use Rattle.cola_kv.specs.declared.kv.Kv.{Kv}
use Rattle.cola_kv.specs.Errors.{of_read}
use Rattle.cola_kv.specs.Kv.{Holds, shape_of, faults_of}
use Rattle.cola_kv.specs.Causes.{RangeCause, StepCause, IsRangeRefusal}
use Rattle.cola_kv.specs.Ranged.{Stands, Ahead, IsNext, Begins, Nexts, StoreBegins, StoreGoes}
use Rattle.cola_kv.proofs.Answered.{stays-of, stays-same, read-step-refusal, differ}

-- the result of a call below, as one of the store's
abbrev pub result_of : {A : Type 0} → Result A ReadFault → Result A Error
result_of (Ok a) = Ok a
result_of (Err f) = Err (of_read f)

range-cause : (A : Type 0) (shape : Shape) (low : List ℕ) (high : Option (List ℕ)) (before now : ℕ) (f : ReadFault) → ReadFaults {A = A} (Err f) before now → RangeCause shape low high before now (of_read f)
range-cause A shape low high before now read.Device faults = faults
range-cause A shape low high before now (read.BadCell cell) faults = faults

pub step-cause : (A : Type 0) (before now : ℕ) (f : ReadFault) → ReadFaults {A = A} (Err f) before now → StepCause before now (of_read f)
step-cause A before now read.Device faults = faults
step-cause A before now (read.BadCell cell) faults = faults

range-refusal : (shape : Shape) (low : List ℕ) (high : Option (List ℕ)) (f : ReadFault) → OnlyDeviceRead f → IsRangeRefusal shape low high (of_read f)
range-refusal shape low high read.Device only = tt
range-refusal shape low high (read.BadCell cell) only = only

-- what is left to turn to is within the number
pub left-few : (old new : Spent) (left most : ℕ) → TurnsWithin old new left most → left ≤ most
left-few old new left most turns = omega (arith, turns.turned_stays, turns.turned_rises)

-- nothing was turned to
pub no-turns : (spent : Spent) (most : ℕ) → TurnsWithin spent spent 0 most
no-turns spent most = record { turned_stays = omega arith; turned_rises = omega arith; written_is = refl; ticks = record { made = 0; counted = omega arith; few = omega arith } }

pub both-fit : (shape : Shape) (low : List ℕ) (high : Option (List ℕ)) → is_key shape low ≡ true → IfSome high (λ key. is_key shape key ≡ true) → (is_key shape low ≡ false) ⊎ IsSomeAnd high (λ key. is_key shape key ≡ false) → ⊥
both-fit shape low high fits highs (inl short) = differ (is_key shape low) fits short
both-fit shape low None fits highs (inr short) = short
both-fit shape low (Some key) fits highs (inr short) = differ (is_key shape key) highs short

module _ {D : Type 0} (d : device.Ghosts D) where
  -- a range with an end that is no key
  pub range-short : (kv : Kv D d) (low : List ℕ) (high : Option (List ℕ)) (error : Error) → error ≡ KeyLength → (is_key (shape_of kv) low ≡ false) ⊎ IsSomeAnd high (λ key. is_key (shape_of kv) key ≡ false) →
      Begins d kv kv low high (Err error)
  range-short kv low high error is short = subst (λ (e : Error). Begins d kv kv low high (Err e)) (sym is) (record {
    given = refl;
    ahead = λ m holds. tt;
    map_stays = λ m holds. holds;
    refusal = λ m holds. short;
    stands = tt;
    short_end = λ _. (refl, refl);
    cause = short;
    no_step = refl;
    left = omega arith;
    blocks = no-turns _ _;
    no_ticks = refl;
    stays = stays-same d kv;
  })

  pub nexts-err : (old new : Kv D d) (walk after : Cursor) (result : Result (Option (List ℕ × List ℕ)) Error) (error : Error) → IsErrAnd result (λ e. e ≡ error) → Nexts d old new walk after (Err error) → Nexts d old new walk after result
  nexts-err old new walk after (Ok pair) error so is = absurd so
  nexts-err old new walk after (Err e) error so is = subst (λ (x : Error). Nexts d old new walk after (Err x)) (sym so) is

  module _ (old new : Kv D d) (cache : new.cache ≡ old.cache) (ticks : new.ticks ≡ old.ticks) (kept : kept_of d.bytes d.counts d.kept new.store ≡ kept_of d.bytes d.counts d.kept old.store)
      (faults_stay : faults_of d old ≤ faults_of d new) where
    begun-refused : (low : List ℕ) (high : Option (List ℕ)) (f : ReadFault) → walks.Begins d.bytes d.counts old.store low high (Err f) new.store → StoreBegins d old new low high (Err (of_read f))
    begun-refused low high read.Device given = given
    begun-refused low high (read.BadCell cell) given = given

    gone-refused : (walk after : Cursor) (f : ReadFault) → walks.Goes d.bytes d.counts old.store walk (Err f) new.store after → StoreGoes d old new walk after (Err (of_read f))
    gone-refused walk after read.Device given = given
    gone-refused walk after (read.BadCell cell) given = given

    pub begins : (low : List ℕ) (high : Option (List ℕ)) → is_key (shape_of old) low ≡ true → IfSome high (λ key. is_key (shape_of old) key ≡ true) → (result : Result Cursor ReadFault) →
        ((m : Map) → Holds d old m → RangeAnswers m low high (Holds d new) (Ahead d new) result) → walks.Begins d.bytes d.counts old.store low high result new.store → IfOk result (Stands d new) →
        ReadFaults result (faults_of d old) (faults_of d new) → Begins d old new low high (result_of result)
    begins low high low_fits high_fits (Ok walk) answers given stands faults = record {
      given = given;
      ahead = λ m holds. (answers m holds).0;
      map_stays = λ m holds. (answers m holds).1;
      refusal = λ m holds. tt;
      stands = stands;
      short_end = λ short. absurd (both-fit (shape_of old) low high low_fits high_fits short);
      cause = tt;
      no_step = given.same.steps_are;
      left = left-few _ _ _ _ given.turns;
      blocks = given.turns;
      no_ticks = ticks;
      stays = stays-of d old new kept cache (ap (λ (a : Account). a.opened) given.account_is) faults_stay;
    }
    begins low high low_fits high_fits (Err f) answers given stands faults = record {
      given = begun-refused low high f given;
      ahead = λ m holds. tt;
      map_stays = λ m holds. (answers m holds).1;
      refusal = λ m holds. range-refusal (shape_of old) low high f (answers m holds).0;
      stands = tt;
      short_end = λ short. absurd (both-fit (shape_of old) low high low_fits high_fits short);
      cause = range-cause Cursor (shape_of old) low high (faults_of d old) (faults_of d new) f faults;
      no_step = given.same.steps_are;
      left = omega arith;
      blocks = given.turns;
      no_ticks = ticks;
      stays = stays-of d old new kept cache (ap (λ (a : Account). a.opened) given.account_is) faults_stay;
    }

    next-answers : (After : List (List ℕ × List ℕ) → Type 0) (pairs : List (List ℕ × List ℕ)) (result : Result (Option (List ℕ × List ℕ)) ReadFault) → NextAnswers After pairs result → IsNext After pairs (result_of result)
    next-answers After pairs (Ok (Some pair)) is = is
    next-answers After pairs (Ok None) is = is
    next-answers After pairs (Err f) is = (read-step-refusal f is.0, is.1)

    same-left : (walk after : Cursor) → after ≡ walk → left_of after ≤ left_of walk
    same-left walk after is = let e = ap left_of is in omega (arith, e)

    pub nexts : (walk after : Cursor) (result : Result (Option (List ℕ × List ℕ)) ReadFault) →
        ((m : Map) (pairs : List (List ℕ × List ℕ)) → Holds d old m → Ahead d old walk pairs → NextAnswers (Ahead d new after) pairs result) → ((m : Map) → Holds d old m → Holds d new m) →
        walks.Goes d.bytes d.counts old.store walk result new.store after → Stands d new after → IfOk result (λ answer. OnSome answer (cells_ahead after < cells_ahead walk)) → OnErr result (after ≡ walk) →
        ReadFaults result (faults_of d old) (faults_of d new) → Nexts d old new walk after (result_of result)
    nexts walk after (Ok answer) answers map_stays given stands fewer refused faults = record {
      given = given;
      answer = λ m pairs holds ahead. next-answers (Ahead d new after) pairs (Ok answer) (answers m pairs holds ahead);
      map_stays = map_stays;
      stands = stands;
      fewer = fewer;
      refused = tt;
      cause = tt;
      no_step = given.same.steps_are;
      left = left-few _ _ _ _ given.turns;
      blocks = given.turns;
      no_ticks = ticks;
      stays = stays-of d old new kept cache (ap (λ (a : Account). a.opened) given.account_is) faults_stay;
    }
    nexts walk after (Err f) answers map_stays given stands fewer refused faults = record {
      given = gone-refused walk after f given;
      answer = λ m pairs holds ahead. next-answers (Ahead d new after) pairs (Err f) (answers m pairs holds ahead);
      map_stays = map_stays;
      stands = stands;
      fewer = tt;
      refused = refused;
      cause = step-cause (Option (List ℕ × List ℕ)) (faults_of d old) (faults_of d new) f faults;
      no_step = given.same.steps_are;
      left = same-left walk after refused;
      blocks = given.turns;
      no_ticks = ticks;
      stays = stays-of d old new kept cache (ap (λ (a : Account). a.opened) given.account_is) faults_stay;
    }
