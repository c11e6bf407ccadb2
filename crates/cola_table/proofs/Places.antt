-- Where a key stands among entries by rising keys, and what that says of looking up and of editing.
use Rattle.std.proofs.Common.{◌≡◌, ℕ, zero, suc, ◌<◌, ◌≤◌, true, false, cond, not, IsTrue, List, [], ◌∷◌, length, get_or, set, Some, None, refl, ap, sym, ◌∙◌, arith}
use Rattle.std.proofs.lemmas.Bool.{and_parts}
use Rattle.std.specs.Ordering.{is_lt, is_eq, eq_by_cmp, ordering_reverse}
use Rattle.std.specs.declared.cmp.Ordering.{Ordering}
use Rattle.std.specs.declared.cmp.Ordering.TheVariants.{Less, Equal, Greater}
use Rattle.std.specs.Cmp.{IsTotalOrder}
use Rattle.std.specs.List.{insert, remove}
use Rattle.std.specs.FinMap.{find, put, is_sorted}
use Rattle.std.specs.FinMap.Entries.{below_all, where_key}
use Rattle.cola_table.specs.Flat.{place_of}

-- a comparison that answers less is `Less`, and one that does not is one of the others
pub is_less : (r : Ordering) → is_lt r ≡ true → r ≡ Less
is_less Less e = refl
is_less Equal e = absurd (cc)
is_less Greater e = absurd (cc)

module _ {K X : Type 0} (R : K → K → Ordering) (o : IsTotalOrder R) where
  -- a key that is below all entries is below each
  below_at : (x : K) (es : List (K × X)) (i : ℕ) (d : K × X) → IsTrue (below_all R x es) → i < length es → R x (get_or es i d).0 ≡ Less
  below_at x [] i d h lt = absurd (omega arith)
  below_at x (e ∷ es) zero d h lt = is_less _ (and_parts _ _ h).0
  below_at x (e ∷ es) (suc i) d h lt = below_at x es i d (and_parts _ _ h).1 (omega arith)

  pub place-le : (k : K) (l : List (K × X)) → place_of R k l ≤ length l
  place-le k [] = omega arith
  place-le k (e ∷ es) =
      elim (is_lt (R e.0 k)) as (λ b. cond b (suc (place_of R k es)) 0 ≤ suc (length es)) [
        | true ↦ omega (arith, place-le k es)
        | false ↦ omega arith
      ]

  -- an entry with a smaller key is before the place
  pub place-above : (k : K) (l : List (K × X)) (i : ℕ) (d : K × X) → IsTrue (is_sorted R l) → i < length l → is_lt (R (get_or l i d).0 k) ≡ true → i < place_of R k l
  place-above k [] i d s lt less = absurd (omega arith)
  place-above k (e ∷ es) zero d s lt less = rw less (omega arith)
  place-above k (e ∷ es) (suc i) d s lt less =
      let head : R e.0 k ≡ Less = o.trans _ _ _ (below_at e.0 es i d (and_parts _ _ s).0 (omega arith)) (is_less _ less) in
      rw head (omega (arith, place-above k es i d (and_parts _ _ s).1 (omega arith) less))

  -- an entry whose key is not smaller is at the place, or after it
  pub place-upto : (k : K) (l : List (K × X)) (i : ℕ) (d : K × X) → i < length l → is_lt (R (get_or l i d).0 k) ≡ false → place_of R k l ≤ i
  place-upto k [] i d lt not_less = absurd (omega arith)
  place-upto k (e ∷ es) zero d lt not_less = rw not_less (omega arith)
  place-upto k (e ∷ es) (suc i) d lt not_less =
      elim (is_lt (R e.0 k)) as (λ b. cond b (suc (place_of R k es)) 0 ≤ suc i) [
        | true ↦ omega (arith, place-upto k es i d (omega arith) not_less)
        | false ↦ omega arith
      ]

  -- the key is found at its place
  pub find-place : (k : K) (l : List (K × X)) (d : K × X) → place_of R k l < length l → R (get_or l (place_of R k l) d).0 k ≡ Equal → find R k l ≡ Some (get_or l (place_of R k l) d).1
  find-place k [] d lt same = absurd (omega arith)
  find-place k (e ∷ es) d lt same =
      elim (R e.0 k) as (λ r. R e.0 k ≡ r → cond (is_lt r) (suc (place_of R k es)) 0 < suc (length es) → R (get_or (e ∷ es) (cond (is_lt r) (suc (place_of R k es)) 0) d).0 k ≡ Equal → find R k (e ∷ es) ≡ Some (get_or (e ∷ es) (cond (is_lt r) (suc (place_of R k es)) 0) d).1) [
        | Less ↦ λ p lt same. rw (o.antisymm k e.0, p) (find-place k es d (omega arith) same)
        | Equal ↦ λ p lt same. rw (o.antisymm k e.0, p) refl
        | Greater ↦ λ p lt same. absurd (cc)
      ] refl lt same

  -- a key below the first of rising keys is not found
  find-below : (k x : K) (es : List (K × X)) → R k x ≡ Less → IsTrue (below_all R x es) → find R k es ≡ None
  find-below k x [] p h = refl
  find-below k x (e ∷ es) p h =
      let parts = and_parts _ _ h in
      let above : R k e.0 ≡ Less = o.trans _ _ _ p (is_less _ parts.0) in
      rw above (find-below k x es p parts.1)

  -- a key that no entry from its place on has is not found
  pub find-absent : (k : K) (l : List (K × X)) → IsTrue (is_sorted R l) → ((d : K × X) → place_of R k l < length l → is_eq (R (get_or l (place_of R k l) d).0 k) ≡ false) → find R k l ≡ None
  find-absent k [] s other = refl
  find-absent k (e ∷ es) s other =
      elim (R e.0 k) as (λ r. R e.0 k ≡ r → ((d : K × X) → cond (is_lt r) (suc (place_of R k es)) 0 < suc (length es) → is_eq (R (get_or (e ∷ es) (cond (is_lt r) (suc (place_of R k es)) 0) d).0 k) ≡ false) → find R k (e ∷ es) ≡ None) [
        | Less ↦ λ p other. rw (o.antisymm k e.0, p) (find-absent k es (and_parts _ _ s).1 (λ d lt. other d (omega arith)))
        | Equal ↦ λ p other. let found : is_eq (R e.0 k) ≡ false = other e (omega arith) in absurd (cc (rw p at found))
        | Greater ↦ λ p other. let above : R k e.0 ≡ Less = o.antisymm k e.0 ∙ ap ordering_reverse p in rw above (find-below k e.0 es above (and_parts _ _ s).0)
      ] refl other

  -- a put at a key that is found writes over its entry
  pub put-present : (k : K) (v : X) (l : List (K × X)) (d : K × X) → place_of R k l < length l → R (get_or l (place_of R k l) d).0 k ≡ Equal → put R k v l ≡ set l (place_of R k l) ((get_or l (place_of R k l) d).0, v)
  put-present k v [] d lt same = absurd (omega arith)
  put-present k v (e ∷ es) d lt same =
      elim (R e.0 k) as (λ r. R e.0 k ≡ r → cond (is_lt r) (suc (place_of R k es)) 0 < suc (length es) → R (get_or (e ∷ es) (cond (is_lt r) (suc (place_of R k es)) 0) d).0 k ≡ Equal → put R k v (e ∷ es) ≡ set (e ∷ es) (cond (is_lt r) (suc (place_of R k es)) 0) ((get_or (e ∷ es) (cond (is_lt r) (suc (place_of R k es)) 0) d).0, v)) [
        | Less ↦ λ p lt same. rw (o.antisymm k e.0, p) (ap (λ z. e ∷ z) (put-present k v es d (omega arith) same))
        | Equal ↦ λ p lt same. rw (o.antisymm k e.0, p) refl
        | Greater ↦ λ p lt same. absurd (cc)
      ] refl lt same

  -- a put at a key that is not found goes to its place
  pub put-absent : (k : K) (v : X) (l : List (K × X)) → find R k l ≡ None → put R k v l ≡ insert l (place_of R k l) (k, v)
  put-absent k v [] none = refl
  put-absent k v (e ∷ es) none =
      elim (R e.0 k) as (λ r. R e.0 k ≡ r → find R k (e ∷ es) ≡ None → put R k v (e ∷ es) ≡ insert (e ∷ es) (cond (is_lt r) (suc (place_of R k es)) 0) (k, v)) [
        | Less ↦ λ p none. rw (o.antisymm k e.0, p) (ap (λ z. e ∷ z) (put-absent k v es (rw (o.antisymm k e.0, p) at none)))
        | Equal ↦ λ p none. absurd (cc (rw (o.antisymm k e.0, p) at none))
        | Greater ↦ λ p none. rw (o.antisymm k e.0, p) refl
      ] refl none

  -- rising keys above one that ties with the key are other keys, and stay
  others_stay : (k x : K) (es : List (K × X)) → R x k ≡ Equal → IsTrue (below_all R x es) → where_key R (λ y. not (eq_by_cmp R k y)) es ≡ es
  others_stay k x [] p h = refl
  others_stay k x (e ∷ es) p h =
      let parts = and_parts _ _ h in
      let above : R k e.0 ≡ Less = sym (o.congr x k e.0 p) ∙ is_less _ parts.0 in
      rw above (ap (λ z. e ∷ z) (others_stay k x es p parts.1))

  -- to take out a key that is found is to take out the entry at its place
  pub without-present : (k : K) (l : List (K × X)) (d : K × X) → IsTrue (is_sorted R l) → place_of R k l < length l → R (get_or l (place_of R k l) d).0 k ≡ Equal → where_key R (λ y. not (eq_by_cmp R k y)) l ≡ remove l (place_of R k l)
  without-present k [] d s lt same = absurd (omega arith)
  without-present k (e ∷ es) d s lt same =
      elim (R e.0 k) as (λ r. R e.0 k ≡ r → cond (is_lt r) (suc (place_of R k es)) 0 < suc (length es) → R (get_or (e ∷ es) (cond (is_lt r) (suc (place_of R k es)) 0) d).0 k ≡ Equal → where_key R (λ y. not (eq_by_cmp R k y)) (e ∷ es) ≡ remove (e ∷ es) (cond (is_lt r) (suc (place_of R k es)) 0)) [
        | Less ↦ λ p lt same. rw (o.antisymm k e.0, p) (ap (λ z. e ∷ z) (without-present k es d (and_parts _ _ s).1 (omega arith) same))
        | Equal ↦ λ p lt same. rw (o.antisymm k e.0, p) (others_stay k e.0 es p (and_parts _ _ s).0)
        | Greater ↦ λ p lt same. absurd (cc)
      ] refl lt same
