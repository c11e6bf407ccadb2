-- The laws of the ordered map.
use Rattle.std.proofs.Common.{ℕ, ◌≡◌, ◌≢◌, ◌≤◌, ◌<◌, ◌+◌, Bool, true, false, cond, refl, sym, ◌∙◌, ap, subst, List, [], ◌∷◌, length, Option, Some, None, is_some, option_map, All, arith, nat_le, nat_eq, ◌&&◌, ◌↔◌, ◌-◌, if◌then◌else◌}
use Rattle.std.proofs.lemmas.Bool.{leb-true, leb-false, le-leb, lt-leb, eqb-false, eq-eqb, ne_eqb}
use Rattle.std.proofs.lemmas.List.{length-map}
use Rattle.std.proofs.lemmas.List.Elements.{All-cons, All-head, All-tail, All-nil, All-weaker, All-same, All-filter}
use Rattle.std.specs.Bool.{OnFalse}
use Rattle.std.specs.declared.cmp.Ordering.TheVariants.{Less, Equal, Greater}
use Rattle.std.specs.Ordering.{eq_by_cmp, is_eq}
use Rattle.std.specs.Cmp.{eq_by_cmp_equiv}
use Rattle.std.specs.Cmp.Lexicographic.{nat_list_cmp_total}
use Rattle.std.specs.FinMap as finite
use Rattle.std.specs.FinMap.Entries.{put, by_order}
use Rattle.cola_spec.specs.Map.{Shape, Stored, Map, IsMap, EntryFits, key_cmp, is_key, is_value, last_stamp, empty_map, value_of, stamp_or_zero, count, pairs, pair_of, is_worn, outcome_at, put_outcome, put_if_outcome, next_stamp, with_value, settled, after_put, after_put_if, after_delete, PutOutcome, New, Old, Full, Worn, Other}
use Rattle.cola_spec.specs.Laws.{is_accepted}
use Rattle.cola_spec.proofs.Entries.{same_key, is_other, entries_empty, entries_insert, entries_remove}

-- Keys

pub tied_key : (key : List ℕ) → eq_by_cmp key_cmp key key ≡ true
tied_key key = (eq_by_cmp_equiv nat_list_cmp_total).refl key

pub other_key : (a b : List ℕ) → a ≢ b → eq_by_cmp key_cmp a b ≡ false
other_key a b apart =
    elim (key_cmp a b) as (λ o. key_cmp a b ≡ o → is_eq o ≡ false) [
      | Less ↦ λ _. refl
      | Equal ↦ λ tie. absurd (apart (same_key a b tie))
      | Greater ↦ λ _. refl
    ] refl

-- What a put leaves

pub settled_accepted : (outcome : PutOutcome) (old new : Map) → is_accepted outcome ≡ true → settled outcome old new ≡ new
settled_accepted New old new is = refl
settled_accepted (Old v) old new is = refl
settled_accepted Full old new is = cc
settled_accepted Worn old new is = cc
settled_accepted (Other n) old new is = cc

pub settled_refused : (outcome : PutOutcome) (old new : Map) → is_accepted outcome ≡ false → settled outcome old new ≡ old
settled_refused New old new is = cc
settled_refused (Old v) old new is = cc
settled_refused Full old new is = refl
settled_refused Worn old new is = refl
settled_refused (Other n) old new is = refl

pub settled_holds : (P : Map → Type 0) (outcome : PutOutcome) (old new : Map) → P old → (is_accepted outcome ≡ true → P new) → P (settled outcome old new)
settled_holds P New old new before after = after refl
settled_holds P (Old v) old new before after = after refl
settled_holds P Full old new before after = before
settled_holds P Worn old new before after = before
settled_holds P (Other n) old new before after = before

-- what the key of an accepted put has
abbrev pub new_entry : Shape → Map → List ℕ → Stored
new_entry shape m value = record { value = value; stamp = next_stamp shape m }

pub get_with_value : (shape : Shape) (m : Map) (key value : List ℕ) → finite.get (with_value shape m key value).entries key ≡ Some (new_entry shape m value)
get_with_value shape m key value = finite.get-insert nat_list_cmp_total m.entries key (new_entry shape m value) key ∙ ap (λ b. cond b (Some (new_entry shape m value)) (finite.get m.entries key)) (tied_key key)

pub others_with_value : (shape : Shape) (m : Map) (key value other : List ℕ) → other ≢ key → finite.get (with_value shape m key value).entries other ≡ finite.get m.entries other
others_with_value shape m key value other apart =
    finite.get-insert nat_list_cmp_total m.entries key (new_entry shape m value) other ∙ ap (λ b. cond b (Some (new_entry shape m value)) (finite.get m.entries other)) (other_key other key apart)

pub get_after : (shape : Shape) (m : Map) (key value : List ℕ) (outcome : PutOutcome) → is_accepted outcome ≡ true
    → finite.get (settled outcome m (with_value shape m key value)).entries key ≡ Some (new_entry shape m value)
get_after shape m key value outcome is = ap (λ n. finite.get n.entries key) (settled_accepted outcome m (with_value shape m key value) is) ∙ get_with_value shape m key value

pub others_after : (shape : Shape) (m : Map) (key value : List ℕ) (outcome : PutOutcome) (other : List ℕ) → other ≢ key
    → finite.get (settled outcome m (with_value shape m key value)).entries other ≡ finite.get m.entries other
others_after shape m key value outcome other apart =
    settled_holds (λ n. finite.get n.entries other ≡ finite.get m.entries other) outcome m (with_value shape m key value) refl (λ _. others_with_value shape m key value other apart)

-- What a delete leaves

pub get_after_delete : (m : Map) (key : List ℕ) → finite.get (after_delete m key).entries key ≡ None
get_after_delete m key = finite.get-remove nat_list_cmp_total m.entries key key ∙ ap (λ b. cond b None (finite.get m.entries key)) (tied_key key)

pub others_after_delete : (m : Map) (key other : List ℕ) → other ≢ key → finite.get (after_delete m key).entries other ≡ finite.get m.entries other
others_after_delete m key other apart = finite.get-remove nat_list_cmp_total m.entries key other ∙ ap (λ b. cond b None (finite.get m.entries other)) (other_key other key apart)

-- Which answer a put has

-- a put's answer by two tests: whether the map is full, and whether no stamp is left
abbrev chosen : Bool → Bool → Option Stored → PutOutcome
chosen full worn None = cond full Full (cond worn Worn New)
chosen full worn (Some s) = cond worn Worn (Old s.value)

abbrev valued : Option Stored → Option (List ℕ)
valued found = option_map (λ s. s.value) found

by_tests : (shape : Shape) (m : Map) (found : Option Stored) → outcome_at shape m found ≡ chosen (nat_le shape.limit (count m)) (is_worn shape m) found
by_tests shape m None = refl
by_tests shape m (Some s) = refl

full_when : (full worn : Bool) (found : Option Stored) → chosen full worn found ≡ Full → (valued found ≡ None) × (full ≡ true)
full_when true worn None is = (refl, refl)
full_when false true None is = cc
full_when false false None is = cc
full_when full true (Some s) is = cc
full_when full false (Some s) is = cc

when_full : (full worn : Bool) (found : Option Stored) → valued found ≡ None → full ≡ true → chosen full worn found ≡ Full
when_full true worn None absent is = refl
when_full false worn None absent is = cc
when_full full worn (Some s) absent is = cc

worn_when : (full worn : Bool) (found : Option Stored) → chosen full worn found ≡ Worn → (worn ≡ true) × (valued found ≡ None → full ≡ false)
worn_when true worn None is = cc
worn_when false true None is = (refl, λ _. refl)
worn_when false false None is = cc
worn_when full true (Some s) is = (refl, λ absent. cc)
worn_when full false (Some s) is = cc

when_worn : (full worn : Bool) (found : Option Stored) → worn ≡ true → (valued found ≡ None → full ≡ false) → chosen full worn found ≡ Worn
when_worn full true None is room = ap (λ b. cond b Full Worn) (room refl)
when_worn full false None is room = cc
when_worn full true (Some s) is room = refl
when_worn full false (Some s) is room = cc

new_when : (full worn : Bool) (found : Option Stored) → chosen full worn found ≡ New → (valued found ≡ None) × (full ≡ false) × (worn ≡ false)
new_when true worn None is = cc
new_when false true None is = cc
new_when false false None is = (refl, refl, refl)
new_when full true (Some s) is = cc
new_when full false (Some s) is = cc

when_new : (full worn : Bool) (found : Option Stored) → valued found ≡ None → full ≡ false → worn ≡ false → chosen full worn found ≡ New
when_new true worn None absent room fresh = cc
when_new false true None absent room fresh = cc
when_new false false None absent room fresh = refl
when_new full worn (Some s) absent room fresh = cc

old_when : (full worn : Bool) (found : Option Stored) (value : List ℕ) → chosen full worn found ≡ Old value → (valued found ≡ Some value) × (worn ≡ false)
old_when true worn None value is = cc
old_when false true None value is = cc
old_when false false None value is = cc
old_when full true (Some s) value is = cc
old_when full false (Some s) value is = (cc, refl)

when_old : (full worn : Bool) (found : Option Stored) (value : List ℕ) → valued found ≡ Some value → worn ≡ false → chosen full worn found ≡ Old value
when_old full worn None value present fresh = cc
when_old full true (Some s) value present fresh = cc
when_old full false (Some s) value present fresh = cc

pub put_is_full : (shape : Shape) (m : Map) (key : List ℕ) → (put_outcome shape m key ≡ Full) ↔ ((value_of m key ≡ None) × (shape.limit ≤ count m))
put_is_full shape m key =
    let found = finite.get m.entries key in (
      λ is. let parts = full_when _ _ found (sym (by_tests shape m found) ∙ is) in (parts.0, leb-true _ _ parts.1),
      λ is. by_tests shape m found ∙ when_full _ _ found is.0 (le-leb _ _ is.1),
    )

pub put_is_worn : (shape : Shape) (m : Map) (key : List ℕ) → (put_outcome shape m key ≡ Worn) ↔ ((is_worn shape m ≡ true) × (value_of m key ≡ None → count m < shape.limit))
put_is_worn shape m key =
    let found = finite.get m.entries key in (
      λ is. let parts = worn_when _ _ found (sym (by_tests shape m found) ∙ is) in (parts.0, λ absent. leb-false _ _ (parts.1 absent)),
      λ is. by_tests shape m found ∙ when_worn _ _ found is.0 (λ absent. lt-leb _ _ (is.1 absent)),
    )

pub put_is_new : (shape : Shape) (m : Map) (key : List ℕ) → (put_outcome shape m key ≡ New) ↔ ((value_of m key ≡ None) × (count m < shape.limit) × (is_worn shape m ≡ false))
put_is_new shape m key =
    let found = finite.get m.entries key in (
      λ is. let parts = new_when _ _ found (sym (by_tests shape m found) ∙ is) in (parts.0, leb-false _ _ parts.1, parts.2),
      λ is. by_tests shape m found ∙ when_new _ _ found is.0 (lt-leb _ _ is.1) is.2,
    )

pub put_is_old : (shape : Shape) (m : Map) (key value : List ℕ) → (put_outcome shape m key ≡ Old value) ↔ ((value_of m key ≡ Some value) × (is_worn shape m ≡ false))
put_is_old shape m key value =
    let found = finite.get m.entries key in
    (λ is. old_when _ _ found value (sym (by_tests shape m found) ∙ is), λ is. by_tests shape m found ∙ when_old _ _ found value is.0 is.1)

never_other : (full worn : Bool) (found : Option Stored) (stamp : ℕ) → chosen full worn found ≢ Other stamp
never_other true worn None stamp is = cc
never_other false true None stamp is = cc
never_other false false None stamp is = cc
never_other full true (Some s) stamp is = cc
never_other full false (Some s) stamp is = cc

pub put_is_never_other : (shape : Shape) (m : Map) (key : List ℕ) (stamp : ℕ) → put_outcome shape m key ≢ Other stamp
put_is_never_other shape m key stamp is = never_other _ _ (finite.get m.entries key) stamp (sym (by_tests shape m (finite.get m.entries key)) ∙ is)

-- a put that saw another stamp is refused with the stamp that there is
other_when : (same : Bool) (here : ℕ) (outcome : PutOutcome) (stamp : ℕ) → outcome ≢ Other stamp → cond same outcome (Other here) ≡ Other stamp → (here ≡ stamp) × (same ≡ false)
other_when true here outcome stamp apart is = absurd (apart is)
other_when false here outcome stamp apart is = (cc, refl)

pub put_if_is_other : (shape : Shape) (m : Map) (key : List ℕ) (seen stamp : ℕ) → (put_if_outcome shape m key seen ≡ Other stamp) ↔ ((stamp_or_zero m key ≡ stamp) × (stamp ≢ seen))
put_if_is_other shape m key seen stamp = (
  λ is. let parts = other_when _ _ _ stamp (put_is_never_other shape m key stamp) is in (parts.0, λ same. eqb-false _ _ parts.1 (parts.0 ∙ same)),
  λ is. ap (λ b. cond b (put_outcome shape m key) (Other (stamp_or_zero m key))) (ne_eqb _ _ (λ same. is.1 (sym is.0 ∙ same))) ∙ ap Other is.0,
)

pub put_if_is_put : (shape : Shape) (m : Map) (key : List ℕ) (seen : ℕ) → stamp_or_zero m key ≡ seen → put_if_outcome shape m key seen ≡ put_outcome shape m key
put_if_is_put shape m key seen same = ap (λ b. cond b (put_outcome shape m key) (Other (stamp_or_zero m key))) (eq-eqb _ _ same)

pub put_by_put_if : (same : Bool) (here : ℕ) (outcome : PutOutcome) → is_accepted (cond same outcome (Other here)) ≡ true → is_accepted outcome ≡ true
put_by_put_if true here outcome is = is
put_by_put_if false here outcome is = cc

-- How many keys there are

pub count_pairs : (m : Map) → count m ≡ length (pairs m)
count_pairs m = finite.len-entries m.entries ∙ sym (length-map (finite.entries m.entries) pair_of)

fresh_when : (full worn : Bool) (found : Option Stored) → is_accepted (chosen full worn found) ≡ true → (worn ≡ false) × (is_some found ≡ false → full ≡ false)
fresh_when true worn None is = cc
fresh_when false true None is = cc
fresh_when false false None is = (refl, λ _. refl)
fresh_when full true (Some s) is = cc
fresh_when full false (Some s) is = (refl, λ absent. cc)

valued_is : (found : Option Stored) → is_some found ≡ is_some (valued found)
valued_is None = refl
valued_is (Some s) = refl

pub count_with_value : (shape : Shape) (m : Map) (key value : List ℕ) → count (with_value shape m key value) ≡ (if is_some (value_of m key) then count m else count m + 1)
count_with_value shape m key value =
    finite.len-insert nat_list_cmp_total m.entries key (new_entry shape m value) ∙ ap (λ b. cond b (count m) (count m + 1)) (valued_is (finite.get m.entries key))

pub count_after_delete : (m : Map) (key : List ℕ) → count (after_delete m key) ≡ (if is_some (value_of m key) then count m - 1 else count m)
count_after_delete m key = finite.len-remove nat_list_cmp_total m.entries key ∙ ap (λ b. cond b (count m - 1) (count m)) (valued_is (finite.get m.entries key))

pub accepted_is_fresh : (shape : Shape) (m : Map) (key : List ℕ) → is_accepted (put_outcome shape m key) ≡ true → is_worn shape m ≡ false
accepted_is_fresh shape m key accepted =
    let found = finite.get m.entries key in
    (fresh_when _ _ found (ap is_accepted (sym (by_tests shape m found)) ∙ accepted)).0

pub accepted_if_is_fresh : (shape : Shape) (m : Map) (key : List ℕ) (seen : ℕ) → is_accepted (put_if_outcome shape m key seen) ≡ true → is_worn shape m ≡ false
accepted_if_is_fresh shape m key seen accepted =
    accepted_is_fresh shape m key (put_by_put_if (nat_eq (stamp_or_zero m key) seen) (stamp_or_zero m key) (put_outcome shape m key) accepted)

-- Maps of the shape stay so

all_put : (P : List ℕ × Stored → Type 0) (key : List ℕ) (new : Stored) (es : List (List ℕ × Stored)) → P (key, new) → All P es → All P (put key_cmp key new es)
all_put P key new [] here all = All-cons P (key, new) [] here all
all_put P key new (e ∷ es) here all =
    elim (key_cmp key e.0) as (λ o. key_cmp key e.0 ≡ o → All P (by_order o ((key, new) ∷ e ∷ es) ((e.0, new) ∷ es) (e ∷ put key_cmp key new es))) [
      | Less ↦ λ _. All-cons P (key, new) (e ∷ es) here all
      | Equal ↦ λ tie. All-cons P (e.0, new) es (subst (λ k. P (k, new)) (same_key key e.0 tie) here) (All-tail P e es all)
      | Greater ↦ λ _. All-cons P e (put key_cmp key new es) (All-head P e es all) (all_put P key new es here (All-tail P e es all))
    ] refl

entry_fits_later : (shape : Shape) (last later : ℕ) → last ≤ later → (e : List ℕ × Stored) → EntryFits shape last e → EntryFits shape later e
entry_fits_later shape last later le e h = record { key_fits = h.key_fits; value_fits = h.value_fits; given = omega (arith, h.given) }

last_within : (stamped : Bool) (last : ℕ) → last ≤ last_stamp → (stamped && nat_le last_stamp last) ≡ false → cond stamped (last + 1) last ≤ last_stamp
last_within true last le fresh = let lt = leb-false _ _ fresh in omega (arith, lt)
last_within false last le fresh = le

last_rises : (stamped : Bool) (last : ℕ) → last ≤ cond stamped (last + 1) last
last_rises true last = omega arith
last_rises false last = omega arith

stamp_given : (stamped : Bool) (last : ℕ) → cond stamped (last + 1) 0 ≤ cond stamped (last + 1) last
stamp_given true last = omega arith
stamp_given false last = omega arith

still_unstamped : (stamped : Bool) (last : ℕ) → OnFalse stamped (last ≡ 0) → OnFalse stamped (cond stamped (last + 1) last ≡ 0)
still_unstamped true last h = h
still_unstamped false last h = h

with_value_is_map : (shape : Shape) (m : Map) (key value : List ℕ) → IsMap shape m → is_key shape key ≡ true → is_value shape value ≡ true → is_worn shape m ≡ false
    → count (with_value shape m key value) ≤ shape.limit → IsMap shape (with_value shape m key value)
with_value_is_map shape m key value h key_fits value_fits fresh within =
    let later : ℕ = cond shape.stamped (m.last + 1) m.last in
    record {
      within = within;
      fitting = All-same (EntryFits shape later) _ _ (entries_insert m.entries key (new_entry shape m value))
          (all_put (EntryFits shape later) key (new_entry shape m value) (finite.entries m.entries)
          (record { key_fits = key_fits; value_fits = value_fits; given = stamp_given shape.stamped m.last })
          (All-weaker (EntryFits shape m.last) (EntryFits shape later) (entry_fits_later shape m.last later (last_rises shape.stamped m.last)) _ h.fitting));
      last_given = last_within shape.stamped m.last h.last_given fresh;
      unstamped = still_unstamped shape.stamped m.last h.unstamped;
    }

room_for : (found : Bool) (n limit : ℕ) → n ≤ limit → (found ≡ false → n < limit) → cond found n (n + 1) ≤ limit
room_for true n limit le room = le
room_for false n limit le room = let lt = room refl in omega (arith, lt)

put_is_map : (shape : Shape) (m : Map) (key value : List ℕ) → IsMap shape m → is_key shape key ≡ true → is_value shape value ≡ true → is_accepted (put_outcome shape m key) ≡ true
    → IsMap shape (with_value shape m key value)
put_is_map shape m key value h key_fits value_fits accepted =
    let found = finite.get m.entries key in
    let parts = fresh_when _ _ found (ap is_accepted (sym (by_tests shape m found)) ∙ accepted) in
    with_value_is_map shape m key value h key_fits value_fits parts.0
    (subst (λ n. n ≤ shape.limit) (sym (finite.len-insert nat_list_cmp_total m.entries key (new_entry shape m value))) (room_for (is_some found) (count m) shape.limit h.within (λ absent. leb-false _ _ (parts.1 absent))))

pub after_put_is_map : (shape : Shape) (m : Map) (key value : List ℕ) → IsMap shape m → is_key shape key ≡ true → is_value shape value ≡ true → IsMap shape (after_put shape m key value)
after_put_is_map shape m key value h key_fits value_fits =
    settled_holds (IsMap shape) (put_outcome shape m key) m (with_value shape m key value) h (put_is_map shape m key value h key_fits value_fits)

pub after_put_if_is_map : (shape : Shape) (m : Map) (key : List ℕ) (seen : ℕ) (value : List ℕ) → IsMap shape m → is_key shape key ≡ true → is_value shape value ≡ true → IsMap shape (after_put_if shape m key seen value)
after_put_if_is_map shape m key seen value h key_fits value_fits =
    settled_holds (IsMap shape) (put_if_outcome shape m key seen) m (with_value shape m key value) h
    (λ is. put_is_map shape m key value h key_fits value_fits (put_by_put_if (nat_eq (stamp_or_zero m key) seen) (stamp_or_zero m key) (put_outcome shape m key) is))

fewer : (found : Bool) (n limit : ℕ) → n ≤ limit → cond found (n - 1) n ≤ limit
fewer true n limit le = omega arith
fewer false n limit le = le

pub after_delete_is_map : (shape : Shape) (m : Map) (key : List ℕ) → IsMap shape m → IsMap shape (after_delete m key)
after_delete_is_map shape m key h = record {
  within = subst (λ n. n ≤ shape.limit) (sym (finite.len-remove nat_list_cmp_total m.entries key)) (fewer _ _ _ h.within);
  fitting = All-same (EntryFits shape m.last) _ _ (entries_remove m.entries key) (All-filter (λ e. is_other key e.0) (EntryFits shape m.last) (finite.entries m.entries) h.fitting);
  last_given = h.last_given;
  unstamped = h.unstamped;
}

zero_when : (stamped : Bool) → OnFalse stamped (◌≡◌ {A = ℕ} 0 0)
zero_when true = tt
zero_when false = refl

pub empty_is_map : (shape : Shape) → IsMap shape empty_map
unfolding empty_map
empty_is_map shape = record {
  within = subst (λ n. n ≤ shape.limit) (sym (finite.len-empty key_cmp Stored)) (omega arith);
  fitting = All-same (EntryFits shape 0) _ _ entries_empty (All-nil (EntryFits shape 0));
  last_given = omega arith;
  unstamped = zero_when shape.stamped;
}
