-- What writing a slot and changing the order make of the entries in order.
use Rattle.std.proofs.Common.{◌≡◌, ◌≢◌, ℕ, zero, suc, ◌<◌, ◌≤◌, false, List, [], ◌∷◌, ◌++◌, length, get_or, set, take, drop, refl, ap, sym, subst, ◌∙◌, nat_eq, arith, append_assoc}
use Rattle.std.proofs.lemmas.Bool.{eqb-false, ne_eqb}
use Rattle.std.proofs.lemmas.List.{append-nil, map-append, take-map, drop-map, get_or_append_left, get_or-set_other, get_or-set_same, get_or_push, get_or_default, length_push, length-append}
use Rattle.std.proofs.lemmas.List.Edits.{length-insert, length-remove}
use Rattle.std.proofs.lemmas.List.Elements.{All-head, All-tail, All-cons}
use Rattle.std.proofs.lemmas.List.Sorted.{IsPermutation-insert, IsPermutation-remove, IsPermutation-append_comm, IsPermutation-append, IsPermutation-trans, IsPermutation-refl, All-permutation}
use Rattle.std.proofs.lemmas.Map.Keys.{IsDistinct-IsPermutation}
use Rattle.std.specs.Cmp.{nat_eq_equiv}
use Rattle.std.specs.List.{All, AllByRecursion, IsDistinct, insert, remove}
use Rattle.std.specs.List.Sorted.{IsPermutation}
use Rattle.cola_spec.specs.Map.{Stored}
use Rattle.cola_table.specs.Slots.{entry_in, in_order, AreSlots}

abbrev Entry : Type 0
Entry = List ℕ × Stored

-- the slot differs from each of the others
abbrev Differs : ℕ → List ℕ → Type 0
Differs slot others = AllByRecursion (λ other. nat_eq slot other ≡ false) others

differs_front : (slot : ℕ) (xs ys : List ℕ) → Differs slot (xs ++ ys) → Differs slot xs
differs_front slot [] ys d = tt
differs_front slot (x ∷ xs) ys d = (d.0, differs_front slot xs ys d.1)

differs_at : (slot : ℕ) (xs : List ℕ) (i : ℕ) (d : ℕ) → Differs slot xs → i < length xs → nat_eq slot (get_or xs i d) ≡ false
differs_at slot [] i d h lt = absurd (omega arith)
differs_at slot (x ∷ xs) zero d h lt = h.0
differs_at slot (x ∷ xs) (suc i) d h lt = differs_at slot xs i d h.1 (omega arith)

distinct_front : (xs ys : List ℕ) → IsDistinct nat_eq (xs ++ ys) → IsDistinct nat_eq xs
unfolding IsDistinct
distinct_front [] ys d = tt
distinct_front (x ∷ xs) ys d = (differs_front x xs ys d.0, distinct_front xs ys d.1)

-- a slot at or past the count differs from those below it
differs_new : (n : ℕ) (xs : List ℕ) → All (λ slot. slot < n) xs → Differs n xs
differs_new n [] h = tt
differs_new n (x ∷ xs) h = (ne_eqb n x (let lt : x < n = All-head (λ slot. slot < n) x xs h in omega arith), differs_new n xs (All-tail (λ slot. slot < n) x xs h))

all_front : (n : ℕ) (xs ys : List ℕ) → All (λ slot. slot < n) (xs ++ ys) → All (λ slot. slot < n) xs
all_front n xs ys h k d lt = subst (λ (x : ℕ). x < n) (get_or_append_left xs ys d k lt) (h k d (omega (arith, length-append xs ys)))

-- a write to a slot leaves the entries in the others
unwritten : (slots : List Entry) (slot : ℕ) (e : Entry) (xs : List ℕ) → Differs slot xs → in_order (set slots slot e) xs ≡ in_order slots xs
unwritten slots slot e [] d = refl
unwritten slots slot e (x ∷ xs) d =
    let other : x ≢ slot = λ same. eqb-false slot x d.0 (sym same) in
    rw (get_or-set_other slots slot x e ([], record { value = []; stamp = 0 }) other, unwritten slots slot e xs d.1) refl

-- so does a new slot
unpushed : (slots : List Entry) (e : Entry) (xs : List ℕ) → All (λ slot. slot < length slots) xs → in_order (slots ++ e ∷ []) xs ≡ in_order slots xs
unpushed slots e [] h = refl
unpushed slots e (x ∷ xs) h =
    let lt : x < length slots = All-head (λ slot. slot < length slots) x xs h in
    rw (get_or_append_left slots (e ∷ []) ([], record { value = []; stamp = 0 }) x lt, unpushed slots e xs (All-tail (λ slot. slot < length slots) x xs h)) refl

-- an order with one more place
in_order-insert : (slots : List Entry) (order : List ℕ) (place slot : ℕ) → in_order slots (insert order place slot) ≡ insert (in_order slots order) place (entry_in slots slot)
in_order-insert slots order place slot =
    map-append (entry_in slots) (take place order) (slot ∷ drop place order)
    ∙ rw (take-map (entry_in slots) place order, drop-map (entry_in slots) place order) refl

-- and with one less
in_order-remove : (slots : List Entry) (order : List ℕ) (place : ℕ) → in_order slots (remove order place) ≡ remove (in_order slots order) place
in_order-remove slots order place =
    map-append (entry_in slots) (take place order) (drop (suc place) order)
    ∙ rw (take-map (entry_in slots) place order, drop-map (entry_in slots) (suc place) order) refl

flips : (x y : ℕ) → nat_eq x y ≡ nat_eq y x
flips = nat_eq_equiv.symm

-- an entry that is written over in its slot is written over in the order
pub replaced : (slots : List Entry) (e : Entry) (order : List ℕ) (place d : ℕ) → IsDistinct nat_eq order → All (λ slot. slot < length slots) order → place < length order → in_order (set slots (get_or order place d) e) order ≡ set (in_order slots order) place e
unfolding IsDistinct
replaced slots e [] place d distinct range lt = absurd (omega arith)
replaced slots e (x ∷ xs) zero d distinct range lt =
    rw (get_or-set_same slots x e ([], record { value = []; stamp = 0 }) (All-head (λ slot. slot < length slots) x xs range), unwritten slots x e xs distinct.0) refl
replaced slots e (x ∷ xs) (suc place) d distinct range lt =
    let other : x ≢ get_or xs place d = eqb-false x (get_or xs place d) (differs_at x xs place d distinct.0 (omega arith)) in
    rw (get_or-set_other slots (get_or xs place d) x e ([], record { value = []; stamp = 0 }) other, replaced slots e xs place d distinct.1 (All-tail (λ slot. slot < length slots) x xs range) (omega arith)) refl

module _ (limit : ℕ) (slots : List Entry) (order free : List ℕ) where
  -- the first free slot, the last of the list, is put into the order
  pub reused : (rest : List ℕ) (slot place : ℕ) → AreSlots limit (length slots) order free → free ≡ rest ++ slot ∷ [] → place ≤ length order → (Differs slot order) × (slot < length slots) × AreSlots limit (length slots) (insert order place slot) rest
  unfolding IsDistinct
  reused rest slot place are is le =
      let first : IsPermutation (order ++ free) (slot ∷ (order ++ rest)) =
      subst (λ (l : List ℕ). IsPermutation l (slot ∷ (order ++ rest))) (append_assoc order rest (slot ∷ []) ∙ ap (λ (l : List ℕ). order ++ l) (sym is)) (IsPermutation-append_comm (order ++ rest) (slot ∷ [])) in
      let moved : IsPermutation (slot ∷ (order ++ rest)) (insert order place slot ++ rest) = IsPermutation-append (slot ∷ order) (insert order place slot) rest rest (IsPermutation-insert order place slot) (IsPermutation-refl rest) in
      let whole = IsPermutation-trans _ _ _ first moved in
      let at_head = IsDistinct-IsPermutation nat_eq flips _ _ first are.distinct in
      let ranges = All-permutation (λ s. s < length slots) _ _ first are.in_range in (
        differs_front slot order rest at_head.0,
        All-head (λ s. s < length slots) slot (order ++ rest) ranges,
        record {
          distinct = IsDistinct-IsPermutation nat_eq flips _ _ whole are.distinct;
          in_range = All-permutation (λ s. s < length slots) _ _ whole are.in_range;
          counted = omega (arith, are.counted, length-insert order place slot le, ap length is, length_push rest slot);
          within = are.within;
        },
      )

  -- a new slot is put into the order
  pub pushed : (e : Entry) (place : ℕ) → AreSlots limit (length slots) order free → free ≡ [] → place ≤ length order → length order < limit → AreSlots limit (length (slots ++ e ∷ [])) (insert order place (length slots)) []
  unfolding IsDistinct
  pushed e place are is le room =
      let n : ℕ = length slots in
      let all : All (λ s. s < n) order = all_front n order free are.in_range in
      let moved : IsPermutation (n ∷ order) (insert order place n ++ []) = rw append-nil (IsPermutation-insert order place n) in
      record {
        distinct = IsDistinct-IsPermutation nat_eq flips _ _ moved (differs_new n order all, distinct_front order free are.distinct);
        in_range = All-permutation (λ s. s < length (slots ++ e ∷ [])) _ _ moved (All-cons (λ s. s < length (slots ++ e ∷ [])) n order (omega (arith, length_push slots e)) (λ k d lt. let below : get_or order k d < n = all k d lt in omega (arith, length_push slots e)));
        counted = omega (arith, are.counted, length-insert order place n le, length_push slots e, ap length is);
        within = omega (arith, are.counted, length_push slots e, ap length is);
      }

  -- a slot that leaves the order is free
  pub freed : (place d : ℕ) → AreSlots limit (length slots) order free → place < length order → AreSlots limit (length slots) (remove order place) (free ++ get_or order place d ∷ [])
  freed place d are lt =
      let slot : ℕ = get_or order place d in
      let left : List ℕ = remove order place in
      let first : IsPermutation (order ++ free) (slot ∷ (left ++ free)) = IsPermutation-append order (slot ∷ left) free free (IsPermutation-remove order place slot lt (get_or_default order place d slot lt)) (IsPermutation-refl free) in
      let moved : IsPermutation (slot ∷ (left ++ free)) (left ++ (free ++ slot ∷ [])) =
      subst (λ (l : List ℕ). IsPermutation (slot ∷ (left ++ free)) l) (append_assoc left free (slot ∷ [])) (IsPermutation-append_comm (slot ∷ []) (left ++ free)) in
      let whole = IsPermutation-trans _ _ _ first moved in
      record {
        distinct = IsDistinct-IsPermutation nat_eq flips _ _ whole are.distinct;
        in_range = All-permutation (λ s. s < length slots) _ _ whole are.in_range;
        counted = omega (arith, are.counted, length-remove order place lt, length_push free slot);
        within = are.within;
      }

  -- the entries in order, after each of these
  pub entries_reused : (e : Entry) (slot place : ℕ) → Differs slot order → slot < length slots → in_order (set slots slot e) (insert order place slot) ≡ insert (in_order slots order) place e
  entries_reused e slot place differs lt =
      in_order-insert (set slots slot e) order place slot
      ∙ rw (unwritten slots slot e order differs, get_or-set_same slots slot e ([], record { value = []; stamp = 0 }) lt) refl

  pub entries_pushed : (e : Entry) (place : ℕ) → AreSlots limit (length slots) order free → in_order (slots ++ e ∷ []) (insert order place (length slots)) ≡ insert (in_order slots order) place e
  entries_pushed e place are =
      in_order-insert (slots ++ e ∷ []) order place (length slots)
      ∙ rw (unpushed slots e order (all_front (length slots) order free are.in_range), get_or_push slots e ([], record { value = []; stamp = 0 }) (length slots) refl) refl

  pub entries_freed : (place : ℕ) → in_order slots (remove order place) ≡ remove (in_order slots order) place
  entries_freed place = in_order-remove slots order place

  pub entries_replaced : (e : Entry) (place d : ℕ) → AreSlots limit (length slots) order free → place < length order → in_order (set slots (get_or order place d) e) order ≡ set (in_order slots order) place e
  entries_replaced e place d are lt = replaced slots e order place d (distinct_front order free are.distinct) (all_front (length slots) order free are.in_range) lt

-- the slot at a place of the order
pub slot_in_range : (limit n : ℕ) (order free : List ℕ) (place d : ℕ) → AreSlots limit n order free → place < length order → get_or order place d < n
slot_in_range limit n order free place d are lt = all_front n order free are.in_range place d lt

-- no slot at all
pub no_slots : (limit : ℕ) → AreSlots limit 0 [] []
unfolding IsDistinct
no_slots limit = record {
  distinct = tt;
  in_range = λ k d lt. absurd (omega arith);
  counted = omega arith;
  within = omega arith;
}
