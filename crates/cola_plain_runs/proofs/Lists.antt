-- Lists of plain cells as runs, from a cursor on.
use Rattle.std.proofs.Common.{◌≡◌, ℕ, zero, suc, ◌+◌, ◌-◌, ◌*◌, ◌/◌, ◌%◌, ◌≤◌, ◌<◌, ◌↔◌, ◌⊎◌, inl, inr, Bool, true, false, List, [], ◌∷◌, ◌++◌, refl, sym, ap, ◌∙◌, subst, Less, Equal, Greater, Ordering, length, drop, take, get_or, arith, length-drop, add-one, is_lt, Option}
use Rattle.std.specs.Bool.{IsTrue}
use Rattle.std.specs.List.{AllByRecursion, slice_get}
use Rattle.std.specs.Option.{option_map}
use Rattle.std.proofs.lemmas.Option.{slice_get-map}
use Rattle.std.specs.List.Sorted.{IsStrictlySortedBy}
use Rattle.cola_plain_runs.specs.declared.cells.PlainCell.{PlainCell}
use Rattle.cola_runs.specs.Cells.{Cell, Entry, Look, place_cmp, link_of, is_look, IsRising, IsLinked}
use Rattle.cola_plain_runs.specs.declared.merge.PlainHead.{PlainHead}
use Rattle.cola_plain_runs.specs.declared.merge.PlainHead.TheVariants as head
use Rattle.cola_runs.specs.Weave.{Part}
use Rattle.cola_runs.specs.Steps.{Action, Build, rule, step, after, consumed_from}
use Rattle.cola_plain_runs.specs.Runs.{as_cell, as_run, as_head, own_after, incoming_after, sampled_after}
use Rattle.cola_runs.proofs.Stepping.{drop_all}

module _ {K V : Type 0} where
  run_from_suc : (xs : List (PlainCell K V)) (i : ℕ) (x : PlainCell K V) → i < length xs → x ≡ get_or xs i x → drop i (as_run xs) ≡ as_cell x ∷ drop (suc i) (as_run xs)
  run_from_suc [] i x h e = absurd (omega arith)
  run_from_suc (y ∷ xs) zero x h e = ap (λ z. as_cell z ∷ as_run xs) (sym e)
  run_from_suc (y ∷ xs) (suc i) x h e = run_from_suc xs i x (omega arith) e

  -- the run from the cell of number i on
  pub run_from : (xs : List (PlainCell K V)) (i : ℕ) (x : PlainCell K V) → i < length xs → x ≡ get_or xs i x → drop i (as_run xs) ≡ as_cell x ∷ drop (i + 1) (as_run xs)
  run_from xs i x h e = rw add-one (run_from_suc xs i x h e)

  pub run_length : (xs : List (PlainCell K V)) → length (as_run xs) ≡ length xs
  run_length [] = refl
  run_length (x ∷ xs) = ap suc (run_length xs)

  -- nothing is left from the end on
  pub run_end : (xs : List (PlainCell K V)) (i : ℕ) → length xs ≤ i → drop i (as_run xs) ≡ []
  run_end xs i h = let e = run_length xs in drop_all i (as_run xs) (omega arith)

take_all : {X : Type 0} (n : ℕ) (xs : List X) → length xs ≤ n → take n xs ≡ xs
take_all zero [] h = refl
take_all zero (x ∷ xs) h = absurd (omega arith)
take_all (suc n) [] h = refl
take_all (suc n) (x ∷ xs) h = ap (λ z. x ∷ z) (take_all n xs (omega arith))

-- a slice that is taken from i on to the end
slice_from : {X : Type 0} (xs : List X) (i : ℕ) → take (length xs - i) (drop i xs) ≡ drop i xs
slice_from xs i = let e = length-drop i xs in take_all (length xs - i) (drop i xs) (omega arith)

module _ {K V : Type 0} where
  rest_suc : (xs : List (PlainCell K V)) (i : ℕ) → as_run (drop 1 (drop i xs)) ≡ drop (suc i) (as_run xs)
  rest_suc [] zero = refl
  rest_suc [] (suc i) = refl
  rest_suc (x ∷ xs) zero = refl
  rest_suc (x ∷ xs) (suc i) = rest_suc xs i

  -- the run behind the cell of number i, as two slices give it
  pub run_behind : (xs : List (PlainCell K V)) (i : ℕ) →
      as_run (take (length (take (length xs - i) (drop i xs)) - 1) (drop 1 (take (length xs - i) (drop i xs)))) ≡ drop (i + 1) (as_run xs)
  run_behind xs i =
      ap (λ ys. as_run (take (length ys - 1) (drop 1 ys))) (slice_from xs i) ∙ ap as_run (slice_from (drop i xs) 1) ∙ rest_suc xs i ∙ ap (λ m. drop m (as_run xs)) (sym (add-one i))

-- ---- a fact of a run that is decided from the front

pub same_from : {X : Type 0} {W : Type 0} (F : List X → Type 0) (xs ys : List X) → xs ≡ ys → (W ↔ F xs) → (W ↔ F ys)
same_from {X} {W} F xs ys e h = subst (λ z. W ↔ F z) e h

-- one cell for which the fact holds leaves the rest to decide
pub all_next : {X W : Type 0} (P : X → Type 0) (x : X) (xs : List X) → P x → (W ↔ AllByRecursion P (x ∷ xs)) → (W ↔ AllByRecursion P xs)
all_next P x xs p h = (λ w. (h.0 w).1, λ k. h.1 (p, k))

-- one for which it does not hold decides
pub all_fails : {X W : Type 0} (P : X → Type 0) (x : X) (xs : List X) → (P x → ⊥) → (W ↔ AllByRecursion P (x ∷ xs)) → W → ⊥
all_fails P x xs p h w = p (h.0 w).0

-- ---- the order of a run, and its links

module _ {K V : Type 0} {W : Type 0} (cmp : K → K → Ordering) (c : Cell K V) (cells : List (Cell K V)) where
  pub rising_next : AllByRecursion (λ d. place_cmp cmp c d ≡ Less) cells → (W ↔ IsRising cmp (c ∷ cells)) → (W ↔ IsRising cmp cells)
  unfolding IsStrictlySortedBy
  rising_next p h = (λ w. (h.0 w).1, λ k. h.1 (p, k))

  pub rising_fails : (AllByRecursion (λ d. place_cmp cmp c d ≡ Less) cells → ⊥) → (W ↔ IsRising cmp (c ∷ cells)) → W → ⊥
  unfolding IsStrictlySortedBy
  rising_fails p h w = p (h.0 w).0

pub rising_none : {K : Type 0} (V : Type 0) {W : Type 0} (cmp : K → K → Ordering) → (W ↔ IsRising {V = V} cmp []) → W
unfolding IsStrictlySortedBy
rising_none V cmp h = h.1 tt

module _ {K V : Type 0} {W : Type 0} where
  -- a link that counts leaves the rest to decide, with one more lookahead cell before it if it is one
  pub linked_look : (n m : ℕ) (c : Cell K V) (cells : List (Cell K V)) → link_of c ≡ 8 * n → is_look c ≡ true → m ≡ n + 1 → (W ↔ IsLinked n (c ∷ cells)) → (W ↔ IsLinked m cells)
  linked_look n m (Entry k i y l) cells p q e h = cc
  linked_look n m (Look k l) cells p q e h = rw (e, add-one) (λ w. (h.0 w).1, λ k. h.1 (p, k))

  pub linked_item : (n m : ℕ) (c : Cell K V) (cells : List (Cell K V)) → link_of c ≡ 8 * n → is_look c ≡ false → m ≡ n → (W ↔ IsLinked n (c ∷ cells)) → (W ↔ IsLinked m cells)
  linked_item n m (Entry k i y l) cells p q e h = rw e (λ w. (h.0 w).1, λ k. h.1 (p, k))
  linked_item n m (Look k l) cells p q e h = cc

  pub not_linked : (n : ℕ) (c : Cell K V) (cells : List (Cell K V)) (l : ℕ) → l ≡ link_of c → (l % 8 ≡ 0 → ⊥) ⊎ (l / 8 ≡ n → ⊥) → (W ↔ IsLinked n (c ∷ cells)) → W → ⊥
  not_linked n c cells l e d h w =
      let f : l ≡ 8 * n = e ∙ counts c cells (h.0 w) in
      elim d [ inl g ↦ g (omega arith) | inr g ↦ g (omega arith) ]
    where
      counts : (c : Cell K V) (cells : List (Cell K V)) → IsLinked n (c ∷ cells) → link_of c ≡ 8 * n
      counts (Entry k i y l) cells h = h.0
      counts (Look k l) cells h = h.0

-- a link that counts, by its quotient and remainder
pub link_counts : (l n : ℕ) → l % 8 ≡ 0 → l / 8 ≡ n → l ≡ 8 * n
link_counts l n e f = omega arith

-- ---- one step of a merge

module _ {K V : Type 0} (cmp : K → K → Ordering) (part : Part) (own incoming : List (PlainCell K V)) (keys : List K) (b : Build K V) where
  -- the step is what the rule at the heads does
  pub step_by : (a : Action K V) (x y : Option (PlainCell K V)) (k : Option K) → x ≡ slice_get own b.own → y ≡ slice_get incoming b.incoming → k ≡ slice_get keys b.sampled →
      a ≡ rule cmp part (8 * b.sampled) (option_map as_cell x) (option_map as_cell y) k → step cmp part (as_run own) (as_run incoming) keys b ≡ after a b
  unfolding step
  step_by a x y k e f h r =
      let p = ap (option_map as_cell) e ∙ sym (slice_get-map as_cell own b.own) in
      let q = ap (option_map as_cell) f ∙ sym (slice_get-map as_cell incoming b.incoming) in
      let s = r ∙ ap (λ z. rule cmp part (8 * b.sampled) z (option_map as_cell y) k) p ∙ ap (λ z. rule cmp part (8 * b.sampled) (slice_get (as_run own) b.own) z k) q
      ∙ ap (λ z. rule cmp part (8 * b.sampled) (slice_get (as_run own) b.own) (slice_get (as_run incoming) b.incoming) z) h in
      ap (λ z. after z b) (sym s)

-- a build after a head was consumed and cells were emitted, by its parts
pub consumed_is : {K V : Type 0} (head : PlainHead) (cells done : List (Cell K V)) (b : Build K V) (o i s : ℕ) →
    o ≡ own_after head b.own → i ≡ incoming_after head b.incoming → s ≡ sampled_after head b.sampled → done ≡ b.done ++ cells →
    record { own = o; incoming = i; sampled = s; done = done } ≡ consumed_from (as_head head) cells b
consumed_is head.Own cells done b o i s e f g h = rw (e, f, g, h) refl
consumed_is head.Incoming cells done b o i s e f g h = rw (e, f, g, h) refl
consumed_is head.Sample cells done b o i s e f g h = rw (e, f, g, h) refl
