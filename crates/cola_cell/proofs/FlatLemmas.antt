-- That cells in memory meet the traits of cells.
use Rattle.std.proofs.Common.{◌≡◌, inl, ℕ, ◌+◌, ◌%◌, ◌<◌, ◌≤◌, ◌==◌, nat_lt, ◌&&◌, Bool, true, false, if◌then◌else◌, Option, None, Some, IfSome, Result, Ok, Err, OnOk, List, length, get_or, set, refl, ap, sym, subst, ◌∙◌, arith}
use Rattle.std.proofs.lemmas.Bool.{false≢true, ltb-true, lt-ltb, eqb-true, eqb-false}
use Rattle.std.proofs.lemmas.List.{get_or-set_same, get_or-set_other, get_or_default}
use Rattle.cola_outside.specs.Faults.{Rose}
use Rattle.cola_cell.specs.declared.cell.Cell.{Cell}
use Rattle.cola_cell.specs.declared.fault.ReadFault.{ReadFault}
use Rattle.cola_cell.specs.declared.fault.ReadFault.TheVariants.{Device}
use Rattle.cola_cell.specs.declared.fault.PushFault.{PushFault}
use Rattle.cola_cell.specs.declared.fault.PushFault.TheVariants as push
use Rattle.cola_cell.specs.declared.sink.Shadow.{Shadow}
use Rattle.cola_cell.specs.Format.{CellFits}
use Rattle.cola_cell.specs.Places.{slot_size, number_of, IsPlace, block_of}
use Rattle.cola_cell.specs.Held.{Held, Bad, Told, Tells, LawCell, as_cell, is_untold, with_cell, IsElsewhere}
use Rattle.cola_cell.specs.Spent.{Buffer, Ticks, ReadAnswers, ReadCalm}
use Rattle.cola_cell.specs.Reads.{Reads}
use Rattle.cola_cell.specs.Shadows.{emptied, StaysAround, Restarts, Pushes, PushSpends, Writes, Finishes, FinishSpends}
use Rattle.cola_cell.specs.Flat.{Flat, IsFlat, shadow_at, spot_of, is_place, spots_of, held_of, spent_of, state_of, one_more, next_fails, after_access, found, read_answer, with_shadow, longer, is_full, push_answer, after_push, after_finish}
use Rattle.cola_cell.proofs.PlaceNumbers.{numbers_differ, number_within}

-- a place is one for the test too
place_is : (levels l s i : ℕ) → IsPlace levels l s i → is_place levels l s i ≡ true
place_is levels l s i p = rw (lt-ltb l levels p.level_in, lt-ltb s 2 p.slot_in, lt-ltb i (slot_size l) p.index_in) refl

-- two tests that both hold
both : (a b : Bool) → (a && b) ≡ true → (a ≡ true) × (b ≡ true)
both true true e = (refl, refl)
both true false e = absurd (false≢true e)
both false b e = absurd (false≢true e)

-- what the test finds is a place
is_one : (levels l s i : ℕ) → is_place levels l s i ≡ true → IsPlace levels l s i
is_one levels l s i e = let h = both (nat_lt l levels && nat_lt s 2) (nat_lt i (slot_size l)) e in let k = both (nat_lt l levels) (nat_lt s 2) h.0 in
    record { level_in = ltb-true l levels k.0; slot_in = ltb-true s 2 k.1; index_in = ltb-true i (slot_size l) h.1 }

-- what is told of a place
pub spot_is : (levels : ℕ) (cells : List (Option Cell)) (l s i : ℕ) → IsPlace levels l s i → spots_of levels cells l s i ≡ spot_of (get_or cells (number_of l s i) None)
spot_is levels cells l s i p = rw (place_is levels l s i p) refl

-- a choice of the same by a test
same_choice : {A : Type 0} (b : Bool) (x y z : A) → (b ≡ true → x ≡ y) → (if b then x else z) ≡ (if b then y else z)
same_choice true x y z e = e refl
same_choice false x y z e = refl

-- a set cell changes no other place
pub spots_other : (levels : ℕ) (cells : List (Option Cell)) (l s i : ℕ) (c : Option Cell) → s < 2 → i < slot_size l → (m t j : ℕ) → IsElsewhere l s i m t j →
    spots_of levels (set cells (number_of l s i) c) m t j ≡ spots_of levels cells m t j
spots_other levels cells l s i c hs hi m t j d =
    same_choice (is_place levels m t j) (spot_of (get_or (set cells (number_of l s i) c) (number_of m t j) None)) (spot_of (get_or cells (number_of m t j) None)) Bad
    (λ e. let p : IsPlace levels m t j = is_one levels m t j e in
    ap spot_of (get_or-set_other cells (number_of l s i) (number_of m t j) c None (numbers_differ l s i m t j hs hi p.slot_in p.index_in d)))

-- a cell in memory is told
told_spot : (c : Option Cell) → is_untold (spot_of c) ≡ false
told_spot None = refl
told_spot (Some c) = refl

told_choice : (b : Bool) (c : Option Cell) → is_untold (if b then spot_of c else Bad) ≡ false
told_choice true c = told_spot c
told_choice false c = refl

-- every place is told
pub spots_told : (levels : ℕ) (cells : List (Option Cell)) (l s i : ℕ) → is_untold (spots_of levels cells l s i) ≡ false
spots_told levels cells l s i = told_choice (is_place levels l s i) (get_or cells (number_of l s i) None)

-- a cell that is set in a place that is told
with_told : (x : Option Cell) (c : LawCell) → Told c ≡ with_cell (spot_of x) c
with_told None c = refl
with_told (Some x) c = refl

-- a fault that is counted
rose : (count : ℕ) → Rose count (one_more count)
rose count = omega arith

counted : (fails : Bool) (count : ℕ) → count ≤ (if fails then one_more count else count)
counted true count = omega arith
counted false count = omega arith

-- what a read answers has its cause
read_says : (held : Held) (count l s i : ℕ) (fails : Bool) (c : Option Cell) → held.spots l s i ≡ spot_of c → IfSome c (CellFits held.fixed.format) →
    ReadAnswers held count (if fails then one_more count else count) l s i (if fails then Err Device else found (number_of l s i) c)
read_says held count l s i true c e h = rose count
read_says held count l s i false None e h = record { told = subst (λ x. Tells x Bad) (sym e) refl; number_is = refl }
read_says held count l s i false (Some c) e h = record { told = subst (λ x. Tells x (Told (as_cell c))) (sym e) refl; fits = h }

-- and it counts no fault, unless it is the device's
read_is_calm : (count number : ℕ) (fails : Bool) (c : Option Cell) → ReadCalm count (if fails then one_more count else count) (if fails then Err Device else found number c)
read_is_calm count number true c = tt
read_is_calm count number false None = refl
read_is_calm count number false (Some c) = refl

-- a fact is one on Ok
on_ok : {T E P : Type 0} (result : Result T E) → P → OnOk result P
on_ok (Ok x) p = p
on_ok (Err e) p = tt

-- a read meets the trait
pub reads_flat : (flat : Flat) (buffer : Buffer) (l s i : ℕ) → IsFlat flat → IsPlace flat.levels l s i →
    Reads (state_of flat) (state_of (after_access flat)) buffer l s i (read_answer flat l s i)
reads_flat flat buffer l s i f p = record {
  cells_stay = refl;
  answer = read_says (held_of flat) flat.faults l s i (next_fails flat) (get_or flat.cells (number_of l s i) None) (spot_is flat.levels flat.cells l s i p) (f.cells_fit (number_of l s i));
  faults_stay = counted (next_fails flat) flat.faults;
  calm = read_is_calm flat.faults (number_of l s i) (next_fails flat) (get_or flat.cells (number_of l s i) None);
  one_tick = omega arith;
  written_is = refl;
  turned_stays = omega arith;
  turned_rises = omega arith;
  in_last = λ _. record { turned_is = refl; last_is = refl };
  in_small = λ _. record { turned_is = refl; last_is = refl };
  moves = on_ok (read_answer flat l s i) (λ h. absurd (omega (arith, h)));
  keeps = on_ok (read_answer flat l s i) (λ _. inl refl);
  others_stay = λ _ _. refl;
}

-- a level has a shadow
low_level : (flat : Flat) (level : ℕ) → IsFlat flat → level < flat.levels → level < length flat.shadows
low_level flat level f h = let a : flat.levels ≤ 6 = f.levels_within in let b : length flat.shadows ≡ 6 = f.shadows_many in omega (arith, a, b, h)

-- another shadow of one level
pub around_shadow : (flat : Flat) (level : ℕ) (shadow : Shadow) → StaysAround (held_of flat) (held_of (with_shadow flat level shadow)) level
around_shadow flat level shadow = record {
  fixed_is = refl;
  shadows_stay = λ l d. get_or-set_other flat.shadows level l shadow (emptied 1) d;
  telling_is = λ l s i. refl;
}

-- the shadow that was put there
pub shadow_put : (shadows : List Shadow) (level : ℕ) (shadow : Shadow) → level < length shadows → shadow_at (set shadows level shadow) level ≡ shadow
shadow_put shadows level shadow h = get_or-set_same shadows level shadow (emptied 1) h

-- a restart meets the trait
pub restarts_flat : (flat : Flat) (level slot : ℕ) → level < length flat.shadows → Restarts (held_of flat) (held_of (with_shadow flat level (emptied slot))) level slot
restarts_flat flat level slot h = record {
  around = around_shadow flat level (emptied slot);
  shadow_is = shadow_put flat.shadows level (emptied slot) h;
  others_stay = λ l s i _. refl;
  kept_stay = λ _ l s i. refl;
}

-- a call that writes nothing
writes_none : (flat new : Flat) (ticks l s i : ℕ) → flat.faults ≤ new.faults → Ticks flat.ticked new.ticked ticks → Writes (spent_of flat) (spent_of new) ticks (block_of 8 l s i)
writes_none flat new ticks l s i h t = record {
  faults_stay = h;
  ticks_made = t;
  turned_is = refl;
  written_stays = omega arith;
  written_rises = omega arith;
  lasts_forget = λ _. inl refl;
}

-- a finish meets the trait
pub finishes_flat : (flat : Flat) (level : ℕ) → level < length flat.shadows →
    Finishes {A = Unit {0}} (state_of flat) (state_of (after_finish flat level)) level (Ok tt)
finishes_flat flat level h = record {
  around = around_shadow flat level (record (shadow_at flat.shadows level) { saved = true });
  answer = tt;
  calm = refl;
  shadow_is = shadow_put flat.shadows level (record (shadow_at flat.shadows level) { saved = true }) h;
  others_stay = λ l s i _. refl;
}

pub finish_spends : (flat : Flat) (level : ℕ) → FinishSpends (state_of flat) (state_of (after_finish flat level)) level
finish_spends flat level = record {
  writes = writes_none flat (after_finish flat level) 0 level (shadow_at flat.shadows level).slot (shadow_at flat.shadows level).len (omega arith) (omega arith);
  only_needed = λ _. record { written_is = refl; lasts_stay = λ _. refl };
}

-- a length that is not that of the slot
has_room : (flat : Flat) (level : ℕ) → IsFlat flat → is_full flat level ≡ false → (shadow_at flat.shadows level).len < slot_size level
has_room flat level f e = let d : (shadow_at flat.shadows level).len ≡ slot_size level → ⊥ = eqb-false (shadow_at flat.shadows level).len (slot_size level) e in let h : (shadow_at flat.shadows level).len ≤ slot_size level = f.lengths_within level in omega (arith, d, h)

-- a push that is refused as overfull
full_push : (flat : Flat) (level : ℕ) (cell : Cell) → is_full flat level ≡ true → Pushes {A = Unit {0}} (state_of flat) (state_of flat) level cell (Err (push.Overfull level))
full_push flat level cell e = record {
  around = record { fixed_is = refl; shadows_stay = λ _ _. refl; telling_is = λ _ _ _. refl };
  answer = (eqb-true (shadow_at flat.shadows level).len (slot_size level) e, refl, refl, refl);
  calm = refl;
  shadow_is = refl;
  others_stay = λ _ _ _ _. refl;
}

-- a push that the device refuses
refused_push : (flat : Flat) (level : ℕ) (cell : Cell) → IsFlat flat → level < length flat.shadows → is_full flat level ≡ false → next_fails flat ≡ true →
    Pushes {A = Unit {0}} (state_of flat) (state_of (with_shadow (after_access flat) level (record (shadow_at flat.shadows level) { saved = false }))) level cell (Err push.Device)
refused_push flat level cell f h e d = record {
  around = around_shadow flat level (record (shadow_at flat.shadows level) { saved = false });
  answer = (has_room flat level f e, rw d (rose flat.faults));
  calm = tt;
  shadow_is = shadow_put flat.shadows level (record (shadow_at flat.shadows level) { saved = false }) h;
  others_stay = λ _ _ _ _. refl;
}

-- a push that is accepted
accepted_push : (flat : Flat) (level : ℕ) (cell : Cell) → IsFlat flat → level < flat.levels → is_full flat level ≡ false → next_fails flat ≡ false →
    Pushes {A = Unit {0}} (state_of flat) (state_of (longer (after_access flat) level (shadow_at flat.shadows level) cell)) level cell (Ok tt)
accepted_push flat level cell f h e c =
    let shadow : Shadow = shadow_at flat.shadows level in
    let room : shadow.len < slot_size level = has_room flat level f e in
    let place : IsPlace flat.levels level shadow.slot shadow.len = record { level_in = h; slot_in = f.slots_within level; index_in = room } in
    let many : number_of level shadow.slot shadow.len < length flat.cells = subst (λ n. number_of level shadow.slot shadow.len < n) (sym f.cells_many) (number_within flat.levels level shadow.slot shadow.len place) in
    let low : level < length flat.shadows = low_level flat level f h in
    record {
      around = record {
        fixed_is = refl;
        shadows_stay = λ l d. get_or-set_other flat.shadows level l (record { slot = shadow.slot; len = shadow.len + 1; saved = (shadow.len + 1) % 8 == 0 }) (emptied 1) d;
        telling_is = λ l s i. spots_told flat.levels (set flat.cells (number_of level shadow.slot shadow.len) (Some cell)) l s i ∙ sym (spots_told flat.levels flat.cells l s i);
      };
      answer = (
        room,
        spot_is flat.levels (set flat.cells (number_of level shadow.slot shadow.len) (Some cell)) level shadow.slot shadow.len place
            ∙ ap spot_of (get_or-set_same flat.cells (number_of level shadow.slot shadow.len) (Some cell) None many)
            ∙ with_told (get_or flat.cells (number_of level shadow.slot shadow.len) None) (as_cell cell)
            ∙ ap (λ x. with_cell x (as_cell cell)) (sym (spot_is flat.levels flat.cells level shadow.slot shadow.len place)),
      );
      calm = rw c refl;
      shadow_is = shadow_put flat.shadows level (record { slot = shadow.slot; len = shadow.len + 1; saved = (shadow.len + 1) % 8 == 0 }) low;
      others_stay = λ l s i d. spots_other flat.levels flat.cells level shadow.slot shadow.len (Some cell) (f.slots_within level) room l s i d;
    }

-- a push by its two tests
push_by : (flat : Flat) (level : ℕ) (cell : Cell) (full fails : Bool) → IsFlat flat → level < flat.levels → is_full flat level ≡ full → next_fails flat ≡ fails →
    Pushes {A = Unit {0}} (state_of flat) (state_of (if full then flat else if fails then with_shadow (after_access flat) level (record (shadow_at flat.shadows level) { saved = false }) else longer (after_access flat) level (shadow_at flat.shadows level) cell))
    level cell (if full then Err (push.Overfull level) else if fails then Err push.Device else Ok tt)
push_by flat level cell true fails f h e d = full_push flat level cell e
push_by flat level cell false true f h e d = refused_push flat level cell f (low_level flat level f h) e d
push_by flat level cell false false f h e d = accepted_push flat level cell f h e d

-- a push meets the trait
pub pushes_flat : (flat : Flat) (level : ℕ) (cell : Cell) → IsFlat flat → level < flat.levels →
    Pushes {A = Unit {0}} (state_of flat) (state_of (after_push flat level cell)) level cell (push_answer flat level)
pushes_flat flat level cell f h = push_by flat level cell (is_full flat level) (next_fails flat) f h refl refl

-- what a push spends by its two tests
spends_by : (flat : Flat) (level : ℕ) (cell : Cell) (full fails : Bool) →
    PushSpends {A = Unit {0}} (state_of flat) (state_of (if full then flat else if fails then with_shadow (after_access flat) level (record (shadow_at flat.shadows level) { saved = false }) else longer (after_access flat) level (shadow_at flat.shadows level) cell))
    level (if full then Err (push.Overfull level) else if fails then Err push.Device else Ok tt)
spends_by flat level cell true fails = record {
  writes = writes_none flat flat 0 level (shadow_at flat.shadows level).slot (shadow_at flat.shadows level).len (omega arith) (omega arith);
  only_full = λ _. record { written_is = refl; lasts_stay = λ _. refl };
}
spends_by flat level cell false true = record {
  writes = writes_none flat (after_access flat) 1 level (shadow_at flat.shadows level).slot (shadow_at flat.shadows level).len (counted (next_fails flat) flat.faults) (omega arith);
  only_full = λ _. record { written_is = refl; lasts_stay = λ _. refl };
}
spends_by flat level cell false false = record {
  writes = writes_none flat (after_access flat) 1 level (shadow_at flat.shadows level).slot (shadow_at flat.shadows level).len (counted (next_fails flat) flat.faults) (omega arith);
  only_full = λ _. record { written_is = refl; lasts_stay = λ _. refl };
}

pub push_spends : (flat : Flat) (level : ℕ) (cell : Cell) →
    PushSpends {A = Unit {0}} (state_of flat) (state_of (after_push flat level cell)) level (push_answer flat level)
push_spends flat level cell = spends_by flat level cell (is_full flat level) (next_fails flat)

-- the number of a place is that of a cell
pub number_in : (flat : Flat) (l s i : ℕ) → IsFlat flat → IsPlace flat.levels l s i → number_of l s i < length flat.cells
number_in flat l s i f p = subst (λ n. number_of l s i < n) (sym f.cells_many) (number_within flat.levels l s i p)

-- a place is one of six levels
pub place_of_six : (flat : Flat) (l s i : ℕ) → IsFlat flat → IsPlace flat.levels l s i → IsPlace 6 l s i
place_of_six flat l s i f p = record { level_in = (let a : flat.levels ≤ 6 = f.levels_within in let b : l < flat.levels = p.level_in in omega (arith, a, b)); slot_in = p.slot_in; index_in = p.index_in }

-- a read that does not fail gives what stands there
pub read_found : (flat : Flat) (l s i n : ℕ) (c : Option Cell) → next_fails flat ≡ false → n ≡ number_of l s i → n < length flat.cells → c ≡ get_or flat.cells n c →
    found n c ≡ read_answer flat l s i
read_found flat l s i n c d e h k = let a : get_or flat.cells n None ≡ c = get_or_default flat.cells n None c h ∙ sym k in rw (d, sym e, a) refl

-- a read meets the trait by its own clauses
pub read_meets : (flat new : Flat) (buffer : Buffer) (l s i : ℕ) (result : Result Cell ReadFault) → IsFlat flat → IsPlace flat.levels l s i → result ≡ read_answer flat l s i → new ≡ after_access flat →
    Reads (state_of flat) (state_of new) buffer l s i result
read_meets flat new buffer l s i result f p e d =
    subst (λ r. Reads (state_of flat) (state_of new) buffer l s i r) (sym e)
    (subst (λ n. Reads (state_of flat) (state_of n) buffer l s i (read_answer flat l s i)) (sym d) (reads_flat flat buffer l s i f p))

-- a push meets the trait by its own clauses
pub push_meets : (flat new : Flat) (level : ℕ) (cell : Cell) (result : Result Unit PushFault) → IsFlat flat → level < flat.levels → result ≡ push_answer flat level → new ≡ after_push flat level cell →
    Pushes {A = Unit {0}} (state_of flat) (state_of new) level cell result × PushSpends {A = Unit {0}} (state_of flat) (state_of new) level result
push_meets flat new level cell result f h e d =
    subst (λ r. Pushes {A = Unit {0}} (state_of flat) (state_of new) level cell r × PushSpends {A = Unit {0}} (state_of flat) (state_of new) level r) (sym e)
    (subst (λ n. Pushes {A = Unit {0}} (state_of flat) (state_of n) level cell (push_answer flat level) × PushSpends {A = Unit {0}} (state_of flat) (state_of n) level (push_answer flat level)) (sym d)
    (pushes_flat flat level cell f h, push_spends flat level cell))

-- a finish meets the trait by its own clauses
pub finish_meets : (flat new : Flat) (level : ℕ) (result : Result Unit PushFault) → IsFlat flat → level < flat.levels → result ≡ Ok tt → new ≡ after_finish flat level →
    Finishes {A = Unit {0}} (state_of flat) (state_of new) level result × FinishSpends (state_of flat) (state_of new) level
finish_meets flat new level result f h e d =
    subst (λ r. Finishes {A = Unit {0}} (state_of flat) (state_of new) level r × FinishSpends (state_of flat) (state_of new) level) (sym e)
    (subst (λ n. Finishes {A = Unit {0}} (state_of flat) (state_of n) level (Ok tt) × FinishSpends (state_of flat) (state_of n) level) (sym d)
    (finishes_flat flat level (low_level flat level f h), finish_spends flat level))

-- a restart meets the trait by its own clauses
pub restart_meets : (flat new : Flat) (level slot : ℕ) → IsFlat flat → level < flat.levels → new ≡ with_shadow flat level (emptied slot) →
    Restarts (held_of flat) (held_of new) level slot × (spent_of new ≡ spent_of flat)
restart_meets flat new level slot f h d =
    subst (λ n. Restarts (held_of flat) (held_of n) level slot × (spent_of n ≡ spent_of flat)) (sym d) (restarts_flat flat level slot (low_level flat level f h), refl)
