-- The map that the puts and deletes leave.
use Rattle.std.proofs.Common.{◌≡◌, ◌≢◌, ◌+◌, ◌-◌, ◌*◌, ◌/◌, ◌%◌, ◌≤◌, ◌<◌, ℕ, zero, suc, refl, sym, ap, ◌∙◌, subst, arith, List, Bool, true, false, cond, nat_le, ◌&&◌, if◌then◌else◌, Some, None, option_map, is_some, ◌⊎◌, inl, inr}
use Rattle.std.proofs.lemmas.Bool.{lt-leb, eq-eqb, ne_eqb}
use Rattle.std.specs.FinMap as finite
use Rattle.cola_spec.specs.Map.{Shape, Stored, Map, key_cmp, empty_map, value_of, count, is_worn, put_outcome, with_value, settled, after_put, after_delete, New}
use Rattle.cola_spec.proofs.MapLaws.{get_with_value, others_with_value, get_after_delete, others_after_delete, put_is_new, count_with_value, count_after_delete}
use Rattle.cola_gen.specs.Keys.{key_text, value_text, evens, expected, HasOdd}
use Rattle.cola_gen.specs.Commands.{puts, deletes, after_first, left_by}
use Rattle.cola_gen.proofs.Scattered.{keys_apart}

-- Two places are the same or differ
same_or_not : (a b : ℕ) → (a ≡ b) ⊎ (a ≢ b)
same_or_not a b = grind arith

-- One put of a new key

worn_not : (shape : Shape) (m : Map) → m.last < 9223372036854775808 → is_worn shape m ≡ false
worn_not shape m below =
    let few : nat_le 9223372036854775808 m.last ≡ false = lt-leb 9223372036854775808 m.last (omega arith) in
    elim shape.stamped as (λ b. (b && nat_le 9223372036854775808 m.last) ≡ false) [
      | true ↦ few
      | false ↦ refl
    ]

last_at_most : (stamped : Bool) (last : ℕ) → cond stamped (last + 1) last ≤ last + 1
last_at_most true last = omega arith
last_at_most false last = omega arith

-- the keys of the places below the number, each with its value, and no other
pub record HasAll (number : ℕ) (m : Map) : Type 0 where
  pub values : (place : ℕ) → place < number → value_of m (key_text place) ≡ Some (value_text place)
  pub no_other : (key : List ℕ) → ((place : ℕ) → place < number → key ≢ key_text place) → value_of m key ≡ None
  pub counted : count m ≡ number
  pub last : m.last ≤ number

new_here : (number : ℕ) (m : Map) → number < 4294967296 → HasAll number m → value_of m (key_text number) ≡ None
new_here number m small has = has.no_other (key_text number) (λ place below same. let p : number ≡ place = keys_apart number place small (omega arith) same in absurd (omega arith))

is_new_here : (shape : Shape) (number : ℕ) (m : Map) → number < 4294967296 → number < shape.limit → HasAll number m → put_outcome shape m (key_text number) ≡ New
is_new_here shape number m small room has =
    (put_is_new shape m (key_text number)).1 (new_here number m small has, omega (arith, has.counted), worn_not shape m (omega (arith, has.last)))

after_new : (shape : Shape) (m : Map) (key value : List ℕ) → put_outcome shape m key ≡ New → after_put shape m key value ≡ with_value shape m key value
after_new shape m key value is = ap (λ o. settled o m (with_value shape m key value)) is

with_one_more : (shape : Shape) (number : ℕ) (m : Map) → number < 4294967296 → HasAll number m → HasAll (suc number) (with_value shape m (key_text number) (value_text number))
with_one_more shape number m small has = record {
  values = λ place below. elim (same_or_not place number) [
    | inl same ↦
        ap (λ p. value_of (with_value shape m (key_text number) (value_text number)) (key_text p)) same
        ∙ ap (λ s. option_map (λ s. s.value) s) (get_with_value shape m (key_text number) (value_text number))
        ∙ ap (λ p. Some (value_text p)) (sym same)
    | inr apart ↦
        ap (λ s. option_map (λ s. s.value) s) (others_with_value shape m (key_text number) (value_text number) (key_text place) (λ same. apart (keys_apart place number (omega arith) small same)))
        ∙ has.values place (omega arith)
  ];
  no_other = λ key apart.
      ap (λ s. option_map (λ s. s.value) s) (others_with_value shape m (key_text number) (value_text number) key (apart number (omega arith)))
      ∙ has.no_other key (λ place below. apart place (omega arith));
  counted = count_with_value shape m (key_text number) (value_text number) ∙ ap (λ v. if is_some v then count m else count m + 1) (new_here number m small has) ∙ omega (arith, has.counted);
  last = omega (arith, last_at_most shape.stamped m.last, has.last);
}

-- Puts of new keys, one after another, from the empty map

empty_has_none : HasAll 0 empty_map
unfolding empty_map
empty_has_none = record {
  values = λ place below. absurd (omega arith);
  no_other = λ key apart. ap (λ s. option_map (λ s. s.value) s) (finite.get-empty {X = Stored} key_cmp key);
  counted = finite.len-empty key_cmp Stored;
  last = omega arith;
}

module _ (shape : Shape) where
  -- the map after so many puts
  abbrev pub put_so_far : ℕ → Map
  put_so_far number = after_first shape empty_map puts number

  pub has_all : (number : ℕ) → number < 4294967296 → number ≤ shape.limit → HasAll number (put_so_far number)
  has_all zero small room = empty_has_none
  has_all (suc number) small room =
      let has = has_all number (omega arith) (omega arith) in
      subst (HasAll (suc number)) (sym (after_new shape (put_so_far number) (key_text number) (value_text number) (is_new_here shape number (put_so_far number) (omega arith) (omega arith) has)))
      (with_one_more shape number (put_so_far number) (omega arith) has)

  pub all_new : (number place : ℕ) → place < number → number < 4294967296 → number ≤ shape.limit → put_outcome shape (put_so_far place) (key_text place) ≡ New
  all_new number place below small room = is_new_here shape place (put_so_far place) (omega arith) (omega arith) (has_all place (omega arith) (omega arith))

-- the keys of the places below the number that are not twice one of the deleted, each with its value, and no other
pub record HasRest (number deleted : ℕ) (m : Map) : Type 0 where
  pub still : (place : ℕ) → place < number → ((half : ℕ) → half < deleted → place ≢ 2 * half) → value_of m (key_text place) ≡ Some (value_text place)
  pub gone : (half : ℕ) → half < deleted → value_of m (key_text (2 * half)) ≡ None
  pub no_other : (key : List ℕ) → ((place : ℕ) → place < number → key ≢ key_text place) → value_of m key ≡ None
  pub counted : count m ≡ number - deleted

none_deleted : (number : ℕ) (m : Map) → HasAll number m → HasRest number 0 m
none_deleted number m has = record {
  still = λ place below apart. has.values place below;
  gone = λ half below. absurd (omega arith);
  no_other = has.no_other;
  counted = omega (arith, has.counted);
}

found_here : (number deleted : ℕ) (m : Map) → 2 * deleted < number → HasRest number deleted m → value_of m (key_text (2 * deleted)) ≡ Some (value_text (2 * deleted))
found_here number deleted m room has = has.still (2 * deleted) room (λ half below same. omega arith)

one_deleted : (number deleted : ℕ) (m : Map) → 2 * deleted < number → number < 4294967296 → HasRest number deleted m → HasRest number (suc deleted) (after_delete m (key_text (2 * deleted)))
one_deleted number deleted m room small has = record {
  still = λ place below apart.
      ap (λ s. option_map (λ s. s.value) s) (others_after_delete m (key_text (2 * deleted)) (key_text place) (λ same. apart deleted (omega arith) (keys_apart place (2 * deleted) (omega arith) (omega arith) same)))
      ∙ has.still place below (λ half within. apart half (omega arith));
  gone = λ half below. elim (same_or_not half deleted) [
    | inl same ↦ ap (λ h. value_of (after_delete m (key_text (2 * deleted))) (key_text (2 * h))) same ∙ ap (λ s. option_map (λ s. s.value) s) (get_after_delete m (key_text (2 * deleted)))
    | inr apart ↦
        ap (λ s. option_map (λ s. s.value) s) (others_after_delete m (key_text (2 * deleted)) (key_text (2 * half)) (λ same. let p : 2 * half ≡ 2 * deleted = keys_apart (2 * half) (2 * deleted) (omega arith) (omega arith) same in apart (omega arith)))
        ∙ has.gone half (omega arith)
  ];
  no_other = λ key apart.
      ap (λ s. option_map (λ s. s.value) s) (others_after_delete m (key_text (2 * deleted)) key (apart (2 * deleted) room))
      ∙ has.no_other key apart;
  counted = count_after_delete m (key_text (2 * deleted)) ∙ ap (λ v. if is_some v then count m - 1 else count m) (found_here number deleted m room has) ∙ omega (arith, has.counted);
}

module _ (shape : Shape) (number : ℕ) (small : number < 4294967296) (room : number ≤ shape.limit) where
  -- the map after all puts and so many deletes
  abbrev pub deleted_so_far : ℕ → Map
  deleted_so_far deleted = after_first shape (after_first shape empty_map puts number) deletes deleted

  pub has_rest : (deleted : ℕ) → deleted ≤ evens number → HasRest number deleted (deleted_so_far deleted)
  has_rest zero within = none_deleted number (put_so_far shape number) (has_all shape number small room)
  has_rest (suc deleted) within = one_deleted number deleted (deleted_so_far deleted) (omega arith) small (has_rest deleted (omega arith))

  pub all_found : (deleted : ℕ) → deleted < evens number → value_of (deleted_so_far deleted) (key_text (2 * deleted)) ≡ Some (value_text (2 * deleted))
  all_found deleted below = found_here number deleted (deleted_so_far deleted) (omega arith) (has_rest deleted (omega arith))

  odd_place : (place : ℕ) → place < number → HasRest number (evens number) (left_by shape empty_map number) → value_of (left_by shape empty_map number) (key_text place) ≡ expected place
  odd_place place below has = elim (same_or_not (place % 2) 1) [
    | inl odd ↦ has.still place below (λ half within same. omega arith) ∙ sym (ap (λ b. if b then Some (value_text place) else None) (eq-eqb (place % 2) 1 odd))
    | inr even ↦
        let twice : place ≡ 2 * (place / 2) = omega arith in
        ap (λ p. value_of (left_by shape empty_map number) (key_text p)) twice ∙ has.gone (place / 2) (omega arith) ∙ sym (ap (λ b. if b then Some (value_text place) else None) (ne_eqb (place % 2) 1 even))
  ]

  pub has_odd : HasOdd number (left_by shape empty_map number)
  has_odd =
      let has = has_rest (evens number) (omega arith) in
      record { values = λ place below. odd_place place below has; no_other = has.no_other; counted = has.counted }
