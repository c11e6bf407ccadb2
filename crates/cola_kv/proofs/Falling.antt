-- What a falling range of a store, and its greatest key, say, as the records of an open store.
use Rattle.std.proofs.Common.{◌≡◌, ◌&&◌, ℕ, ◌+◌, ◌≤◌, Bool, true, false, List, Option, None, Result, Ok, Err, refl, sym, ap, subst, ◌∙◌, arith}
use Rattle.std.specs.Result.{IsErrAnd}
use Rattle.std.specs.Prelude.{IfOk, OnOk, OnErr}
use Rattle.std.specs.declared.ops.Bound.{Bound}
use Rattle.std.specs.declared.ops.Bound.TheVariants.{Unbounded}
use Rattle.cola_cell.specs.declared.fault.ReadFault.{ReadFault}
use Rattle.cola_cell.specs.declared.fault.ReadFault.TheVariants as read
use Rattle.cola_cursor.specs.declared.cursor.Cursor.{Cursor}
use Rattle.cola_device.specs.declared.device.Device as device
use Rattle.cola_spec.specs.Map.{Map, Shape}
use Rattle.cola_spec.specs.Bounds.{range_bound}
use Rattle.cola_cell.specs.Spent.{Spent}
use Rattle.cola_table.specs.Answers.{NextAnswers, ReadFaults, OnlyDeviceRead}
use Rattle.cola_store.specs.declared.account.Account.{Account}
use Rattle.cola_store.specs.Backward as store
use Rattle.cola_store.specs.Backward.{RangeBackAnswers, LastAnswers, AsksLast, pairs_back}
use Rattle.cola_store.specs.Store as opened
use Rattle.cola_store.specs.Store.{Stored, kept_of, spent_of}
use Rattle.cola_store.specs.Walks as walks
use Rattle.cola_store.specs.Walks.{TurnsWithin, TicksFew, left_of, left_after}
use Rattle.cola_store.proofs.Falling.{last-answers}
use Rattle.cola_store.proofs.Storing.{ticks_then}
use Rattle.cola_kv.specs.declared.error.Error.{Error}
use Rattle.cola_kv.specs.declared.error.Error.TheVariants.{KeyLength}
use Rattle.cola_kv.specs.declared.kv.Kv.{Kv}
use Rattle.cola_kv.specs.Errors.{of_read}
use Rattle.cola_kv.specs.Kv.{Holds, shape_of, levels_of, faults_of}
use Rattle.cola_kv.specs.Backward.{BackCause, IsBackRefusal, BeginsBack, Lasts, StoreBeginsBack, StoreLasts, are_ends, is_low, is_high}
use Rattle.cola_kv.specs.Ranged.{Stands, Ahead, TurnsFew}
use Rattle.cola_kv.proofs.Answered.{stays-of, stays-same, read-step-refusal, differ}
use Rattle.cola_kv.proofs.Ranging.{result_of, step-cause, left-few, no-turns}

back-cause : (A : Type 0) (shape : Shape) (low : Option (List ℕ)) (high : Bound (List ℕ)) (before now : ℕ) (f : ReadFault) → ReadFaults {A = A} (Err f) before now → BackCause shape low high before now (of_read f)
back-cause A shape low high before now read.Device faults = faults
back-cause A shape low high before now (read.BadCell cell) faults = faults

back-refusal : (shape : Shape) (low : Option (List ℕ)) (high : Bound (List ℕ)) (f : ReadFault) → OnlyDeviceRead f → IsBackRefusal shape low high (of_read f)
back-refusal shape low high read.Device only = tt
back-refusal shape low high (read.BadCell cell) only = only

both-ends : (shape : Shape) (low : Option (List ℕ)) (high : Bound (List ℕ)) → is_low shape low ≡ true → is_high shape high ≡ true → are_ends shape low high ≡ true
both-ends shape low high a b = ap (λ (x : Bool). x && is_high shape high) a ∙ b

pub low-short : (shape : Shape) (low : Option (List ℕ)) (high : Bound (List ℕ)) → is_low shape low ≡ false → are_ends shape low high ≡ false
low-short shape low high a = ap (λ (x : Bool). x && is_high shape high) a

pub high-short : (shape : Shape) (low : Option (List ℕ)) (high : Bound (List ℕ)) → is_low shape low ≡ true → is_high shape high ≡ false → are_ends shape low high ≡ false
high-short shape low high a b = ap (λ (x : Bool). x && is_high shape high) a ∙ b

module _ {D : Type 0} (d : device.Ghosts D) where
  -- a range with an end that is no key
  pub back-short : (kv : Kv D d) (low : Option (List ℕ)) (high : Bound (List ℕ)) (error : Error) → error ≡ KeyLength → are_ends (shape_of kv) low high ≡ false → BeginsBack d kv kv low high (Err error)
  back-short kv low high error is short = subst (λ (e : Error). BeginsBack d kv kv low high (Err e)) (sym is) (record {
    given = refl;
    ahead = λ m holds. tt;
    map_stays = λ m holds. holds;
    refusal = λ m holds. short;
    stands = tt;
    short_end = λ _. (refl, refl);
    cause = short;
    no_step = refl;
    left = omega arith;
    blocks = no-turns _ _;
    no_ticks = refl;
    stays = stays-same d kv;
  })

  pub lasts-err : (old new : Kv D d) (result : Result (Option (List ℕ × List ℕ)) Error) (error : Error) → IsErrAnd result (λ e. e ≡ error) → Lasts d old new (Err error) → Lasts d old new result
  lasts-err old new (Ok pair) error so is = absurd so
  lasts-err old new (Err e) error so is = subst (λ (x : Error). Lasts d old new (Err x)) (sym so) is

  module _ (old new : Kv D d) (cache : new.cache ≡ old.cache) (ticks : new.ticks ≡ old.ticks) (kept : kept_of d.bytes d.counts d.kept new.store ≡ kept_of d.bytes d.counts d.kept old.store)
      (faults_stay : faults_of d old ≤ faults_of d new) where
    back-refused : (low : Option (List ℕ)) (high : Bound (List ℕ)) (f : ReadFault) → store.BeginsBack d.bytes d.counts old.store low high (Err f) new.store → StoreBeginsBack d old new low high (Err (of_read f))
    back-refused low high read.Device given = given
    back-refused low high (read.BadCell cell) given = given

    pub begins-back : (low : Option (List ℕ)) (high : Bound (List ℕ)) → is_low (shape_of old) low ≡ true → is_high (shape_of old) high ≡ true → (result : Result Cursor ReadFault) →
        ((m : Map) → Holds d old m → RangeBackAnswers m low high (Holds d new) (Ahead d new) result) → store.BeginsBack d.bytes d.counts old.store low high result new.store → IfOk result (Stands d new) →
        ReadFaults result (faults_of d old) (faults_of d new) → BeginsBack d old new low high (result_of result)
    begins-back low high low_fits high_fits (Ok walk) answers given stands faults = record {
      given = given;
      ahead = λ m holds. (answers m holds).0;
      map_stays = λ m holds. (answers m holds).1;
      refusal = λ m holds. tt;
      stands = stands;
      short_end = λ short. absurd (differ (are_ends (shape_of old) low high) (both-ends (shape_of old) low high low_fits high_fits) short);
      cause = tt;
      no_step = given.same.steps_are;
      left = left-few _ _ _ _ given.turns;
      blocks = given.turns;
      no_ticks = ticks;
      stays = stays-of d old new kept cache (ap (λ (a : Account). a.opened) given.account_is) faults_stay;
    }
    begins-back low high low_fits high_fits (Err f) answers given stands faults = record {
      given = back-refused low high f given;
      ahead = λ m holds. tt;
      map_stays = λ m holds. (answers m holds).1;
      refusal = λ m holds. back-refusal (shape_of old) low high f (answers m holds).0;
      stands = tt;
      short_end = λ short. absurd (differ (are_ends (shape_of old) low high) (both-ends (shape_of old) low high low_fits high_fits) short);
      cause = back-cause Cursor (shape_of old) low high (faults_of d old) (faults_of d new) f faults;
      no_step = given.same.steps_are;
      left = omega arith;
      blocks = given.turns;
      no_ticks = ticks;
      stays = stays-of d old new kept cache (ap (λ (a : Account). a.opened) given.account_is) faults_stay;
    }

  module _ (old new : Kv D d) (cache : new.cache ≡ old.cache) (kept : kept_of d.bytes d.counts d.kept new.store ≡ kept_of d.bytes d.counts d.kept old.store)
      (faults_stay : faults_of d old ≤ faults_of d new) where
    last-refused : (from to : ℕ) (f : ReadFault) → AsksLast d.bytes d.counts old.store (Err f) new.store from to → StoreLasts d old new from to (Err (of_read f))
    last-refused from to read.Device given = given
    last-refused from to (read.BadCell cell) given = given

    -- what is left is not needed
    few-ticks : {one two : Spent} {left most : ℕ} → TicksFew one two left most → TicksFew one two 0 most
    few-ticks t = let few = t.few in record { made = t.made; counted = t.counted; few = omega (arith, few) }

    -- the walk that is begun at the end, and asked once, turns to no more than a range may
    asked-turns : (one two three : Spent) (left rest most : ℕ) → TurnsWithin one two left most → TurnsWithin two three rest left → TurnsWithin one three 0 most
    asked-turns one two three left rest most first second = record {
      turned_stays = omega (arith, first.turned_stays, second.turned_stays);
      turned_rises = omega (arith, first.turned_rises, second.turned_rises);
      written_is = second.written_is ∙ first.written_is;
      ticks = few-ticks (ticks_then one two three most left rest first.ticks second.ticks);
    }

    asked : (from to : ℕ) (result : Result (Option (List ℕ × List ℕ)) ReadFault) (a : AsksLast d.bytes d.counts old.store result new.store from to) → TurnsFew d old new 0 (range_bound (levels_of old))
    asked from to result a = asked-turns (spent_of d.counts old.store) (spent_of d.counts a.mid) (spent_of d.counts new.store) _ _ _ a.begins.turns a.goes.turns

    asked-steps : (from to : ℕ) (result : Result (Option (List ℕ × List ℕ)) ReadFault) (a : AsksLast d.bytes d.counts old.store result new.store from to) → new.store.chain.accepted ≡ old.store.chain.accepted
    asked-steps from to result a = a.goes.same.steps_are ∙ a.begins.same.steps_are

    asked-opened : (from to : ℕ) (result : Result (Option (List ℕ × List ℕ)) ReadFault) (a : AsksLast d.bytes d.counts old.store result new.store from to) → new.store.account.opened ≡ old.store.account.opened
    asked-opened from to result a = ap (λ (x : Account). x.opened) (a.goes.account_is ∙ a.begins.account_is)

    pub lasts : {from to : ℕ} (result : Result (Option (List ℕ × List ℕ)) ReadFault) → ((m : Map) → Holds d old m → LastAnswers m (Holds d new) result) →
        (a : AsksLast d.bytes d.counts old.store result new.store from to) → IfOk result (λ pair. new.ticks + left_of a.after ≡ left_of a.walk) → OnErr result (new.ticks ≡ old.ticks) →
        ReadFaults result (faults_of d old) (faults_of d new) → Lasts d old new (result_of result)
    lasts {from} {to} (Ok pair) answers a told stays faults = record {
      ticks = from;
      ticks_now = to;
      given = record { asks = a; told = told };
      answer = λ m holds. (answers m holds).0;
      map_stays = λ m holds. (answers m holds).1;
      refusal = λ m holds. tt;
      cause = tt;
      no_step = asked-steps from to (Ok pair) a;
      blocks = asked from to (Ok pair) a;
      told = let few = left-few _ _ _ _ a.begins.turns in omega (arith, told, few);
      stays = stays-of d old new kept cache (asked-opened from to (Ok pair) a) faults_stay;
    }
    lasts {from} {to} (Err f) answers a told stays faults = record {
      ticks = from;
      ticks_now = to;
      given = last-refused from to f a;
      answer = λ m holds. tt;
      map_stays = λ m holds. (answers m holds).1;
      refusal = λ m holds. read-step-refusal f (answers m holds).0;
      cause = step-cause (Option (List ℕ × List ℕ)) (faults_of d old) (faults_of d new) f faults;
      no_step = asked-steps from to (Err f) a;
      blocks = asked from to (Err f) a;
      told = stays;
      stays = stays-of d old new kept cache (asked-opened from to (Err f) a) faults_stay;
    }

  -- the greatest key, by a walk of the store's that was begun at the end, which read nothing, and asked once
  module _ (old new : Kv D d) (mid : Stored D) (cache : new.cache ≡ old.cache) (kept : kept_of d.bytes d.counts d.kept mid ≡ kept_of d.bytes d.counts d.kept old.store)
      (still : kept_of d.bytes d.counts d.kept new.store ≡ kept_of d.bytes d.counts d.kept mid) (more : (spent_of d.counts mid).faults ≤ faults_of d new) (walk after : Cursor) (ticks between now : ℕ)
      (begins : store.BeginsBack d.bytes d.counts old.store None Unbounded (Ok walk) mid) (unread : between ≡ ticks)
      (begun : (m : Map) → Holds d old m → RangeBackAnswers m None Unbounded (opened.Holds d.bytes mid) (walks.Ahead d.bytes mid) (Ok walk)) (sound : (m : Map) → opened.Holds d.bytes mid m → Holds d new m) where
    no-fault : (spent_of d.counts mid).faults ≡ faults_of d old
    no-fault = ap (λ (s : Spent). s.faults) (begins.unread refl).1

    few-read : (result : Result (Option (List ℕ × List ℕ)) ReadFault) → now ≤ between + left_of walk → OnOk result (now + left_of after ≤ between + left_of walk) → now + left_after after result ≤ ticks + left_of walk
    few-read (Ok pair) within left = omega (arith, unread, left)
    few-read (Err f) within left = omega (arith, unread, within)

    pub lasts-asked : (result : Result (Option (List ℕ × List ℕ)) ReadFault) → walks.Goes d.bytes d.counts mid walk result new.store after →
        ((m : Map) (pairs : List (List ℕ × List ℕ)) → opened.Holds d.bytes mid m → walks.Ahead d.bytes mid walk pairs → NextAnswers (walks.Ahead d.bytes new.store after) pairs result) →
        now ≤ between + left_of walk → OnOk result (now + left_of after ≤ between + left_of walk) → ReadFaults result (spent_of d.counts mid).faults (faults_of d new) →
        IfOk result (λ pair. new.ticks + left_of after ≡ left_of walk) → OnErr result (new.ticks ≡ old.ticks) → Lasts d old new (result_of result)
    lasts-asked result goes answers within left faults told stays =
        let a : AsksLast d.bytes d.counts old.store result new.store ticks now = record { mid = mid; walk = walk; after = after; begins = begins; goes = goes; reads = few-read result within left } in
        lasts old new cache (still ∙ kept) (omega (arith, no-fault, more)) result
        (λ m holds. let b = begun m holds in last-answers m (walks.Ahead d.bytes new.store after) (Holds d new) result (answers m (pairs_back m None Unbounded) b.1 b.0) (sound m b.1))
        a told stays (subst (λ (n : ℕ). ReadFaults result n (faults_of d new)) no-fault faults)
