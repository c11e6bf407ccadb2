-- The search by links finds what a list of runs has.
use Rattle.std.proofs.Common.{◌≡◌, ℕ, zero, suc, ◌+◌, ◌-◌, ◌*◌, ◌/◌, ◌≤◌, ◌<◌, true, false, cond, List, [], ◌∷◌, refl, sym, ap, ◌∙◌, Less, Equal, Greater, Ordering, length, drop, Some, None, arith, ◌⊎◌, inl, inr}
use Rattle.std.specs.Ordering.{ordering_then, bool_cmp, is_lt, is_eq}
use Rattle.std.specs.Option.{option_map, option_or, option_map_or}
use Rattle.std.specs.Cmp.{IsTotalOrder, alike_right, tied_back}
use Rattle.std.specs.List.{AllByRecursion, slice_get}
use Rattle.std.specs.List.Sorted.{IsStrictlySortedBy}
use Rattle.cola_runs.specs.Cells.{Cell, Entry, Look, key_of, link_of, is_look, place_cmp, IsRising, IsLinked, IsWellFormed, every_eighth, sample, look_keys}
use Rattle.cola_runs.specs.Seen.{Nothing, flagged, seen, holds, answer}
use Rattle.cola_runs.specs.Search.{link_at, first_len, place, place_within, stop, hit_of, find, AreSampled}
use Rattle.cola_runs.proofs.Order.{by_bool, by_ordering, all_change, turned_greater, turned_less}
use Rattle.cola_runs.proofs.AtKey.{holds_flagged}
use Rattle.cola_runs.proofs.Samples.{sample_length}

-- how many keys at the front of a list are below q
abbrev below : {K : Type 0} → (K → K → Ordering) → K → List K → ℕ
below cmp q [] = 0
below cmp q (k ∷ keys) = cond (is_lt (cmp k q)) (suc (below cmp q keys)) 0

module _ {K V : Type 0} (cmp : K → K → Ordering) (q : K) where
  pub place_in : (cells : List (Cell K V)) → place cmp q cells ≤ length cells
  place_in [] = omega arith
  place_in (c ∷ cells) =
      let rest = place_in cells in
      by_bool (λ b. cond b (suc (place cmp q cells)) 0 ≤ suc (length cells)) (omega arith) (omega arith) (is_lt (cmp (key_of c) q))

  -- ---- where a search stops

  found_within : (n : ℕ) (cells : List (Cell K V)) → place cmp q cells < n → place cmp q cells < length cells → place_within cmp q n cells ≡ Some (place cmp q cells)
  found_within n [] h g = absurd (omega arith)
  found_within zero (c ∷ cells) h g = absurd (omega arith)
  found_within (suc n) (c ∷ cells) h g =
      by_bool (λ b. cond b (suc (place cmp q cells)) 0 < suc n → cond b (suc (place cmp q cells)) 0 < suc (length cells) →
      cond b (option_map suc (place_within cmp q n cells)) (Some 0) ≡ Some (cond b (suc (place cmp q cells)) 0))
      (λ x y. ap (option_map suc) (found_within n cells (omega arith) (omega arith))) (λ x y. refl) (is_lt (cmp (key_of c) q)) h g

  none_within : (n : ℕ) (cells : List (Cell K V)) → place cmp q cells ≡ length cells → place_within cmp q n cells ≡ None
  none_within n [] h = refl
  none_within zero (c ∷ cells) h = refl
  none_within (suc n) (c ∷ cells) h =
      by_bool (λ b. cond b (suc (place cmp q cells)) 0 ≡ suc (length cells) → cond b (option_map suc (place_within cmp q n cells)) (Some 0) ≡ None)
      (λ x. ap (option_map suc) (none_within n cells (omega arith))) (λ x. absurd (omega arith)) (is_lt (cmp (key_of c) q)) h

  place_from : (start : ℕ) (run : List (Cell K V)) → start ≤ place cmp q run → start + place cmp q (drop start run) ≡ place cmp q run
  place_from zero run h = omega arith
  place_from (suc start) [] h = absurd (omega arith)
  place_from (suc start) (c ∷ cells) h =
      by_bool (λ b. suc start ≤ cond b (suc (place cmp q cells)) 0 → suc start + place cmp q (drop start cells) ≡ cond b (suc (place cmp q cells)) 0)
      (λ x. let rest = place_from start cells (omega arith) in omega arith) (λ x. absurd (omega arith)) (is_lt (cmp (key_of c) q)) h

  length_from : (start : ℕ) (run : List (Cell K V)) → start ≤ length run → start + length (drop start run) ≡ length run
  length_from zero run h = omega arith
  length_from (suc start) [] h = absurd (omega arith)
  length_from (suc start) (c ∷ cells) h = let rest = length_from start cells (omega arith) in omega arith

  -- a search that begins at most 7 cells before the first cell at or above the key stops there
  pub stops_at_place : (start : ℕ) (run : List (Cell K V)) → start ≤ place cmp q run → place cmp q run ≤ start + 7 → stop cmp q start run ≡ place cmp q run
  stops_at_place start run h g =
      let a = place_from start run h in
      let b = place_in run in
      let c = length_from start run (omega arith) in
      let cases : (place cmp q run < length run) ⊎ (length run ≤ place cmp q run) = grind arith in
      elim cases [
        | inl x ↦ let e = found_within 8 (drop start run) (omega arith) (omega arith) in ap (λ p. option_map_or (λ i. start + i) p (length run)) e ∙ a
        | inr x ↦ let e = none_within 8 (drop start run) (omega arith) in ap (λ p. option_map_or (λ i. start + i) p (length run)) e ∙ (omega arith)
      ]

-- a fact of an item whose key is above q
abbrev ItemAbove : {K V : Type 0} → (K → K → Ordering) → K → Cell K V → Type 0
ItemAbove cmp q (Entry k i y l) = cmp q k ≡ Less
ItemAbove cmp q (Look k l) = Unit {0}

module _ {K V : Type 0} {cmp : K → K → Ordering} (o : IsTotalOrder cmp) (q : K) where
  -- ---- what stands where a search stops

  unseen : (cells : List (Cell K V)) → AllByRecursion (ItemAbove cmp q) cells → seen cmp q cells ≡ Nothing
  unseen [] h = refl
  unseen (Look k l ∷ cells) h = unseen cells h.1
  unseen (Entry k i y l ∷ cells) h = let e : cmp q k ≡ Less = h.0 in rw e (unseen cells h.1)

  above_greater : (c : Cell K V) → cmp q (key_of c) ≡ Less → (d : Cell K V) → place_cmp cmp c d ≡ Less → ItemAbove cmp q d
  above_greater c e (Look k l) p = tt
  above_greater c e (Entry k i y l) p = go (cmp (key_of c) k) refl p
    where
      go : (r : Ordering) → cmp (key_of c) k ≡ r → ordering_then r (bool_cmp (is_look c) false) ≡ Less → cmp q k ≡ Less
      go Less f g = o.trans q (key_of c) k e f
      go Equal f g = sym (alike_right o (key_of c) k q f) ∙ e
      go Greater f g = cc

  above_look : (k : K) (l : ℕ) → cmp q k ≡ Equal → (d : Cell K V) → place_cmp cmp (Look k l) d ≡ Less → ItemAbove cmp q d
  above_look k l e (Look k' m) p = tt
  above_look k l e (Entry k' i y m) p = o.congr q k k' e ∙ go (cmp k k') p
    where
      go : (r : Ordering) → ordering_then r Greater ≡ Less → r ≡ Less
      go Less g = refl
      go Equal g = cc
      go Greater g = cc

  -- the item of the key is in the first cell at or above it, or nowhere in the run
  pub hit_at_place : (run : List (Cell K V)) → IsRising cmp run → hit_of cmp q (slice_get run (place cmp q run)) ≡ holds (seen cmp q run)
  unfolding IsStrictlySortedBy
  hit_at_place [] h = refl
  hit_at_place (Look k l ∷ cells) h =
      by_ordering (λ r. cmp k q ≡ r → hit_of cmp q (slice_get (Look k l ∷ cells) (cond (is_lt r) (suc (place cmp q cells)) 0)) ≡ holds (seen cmp q cells))
      (λ e. hit_at_place cells h.1)
      (λ e. ap holds (sym (unseen cells (all_change (above_look k l (tied_back o k q e)) cells h.0))))
      (λ e. ap holds (sym (unseen cells (all_change (above_greater (Look k l) (turned_greater o k q e)) cells h.0))))
      (cmp k q) refl
  hit_at_place (Entry k i y l ∷ cells) h =
      by_ordering (λ r. cmp k q ≡ r → hit_of cmp q (slice_get (Entry k i y l ∷ cells) (cond (is_lt r) (suc (place cmp q cells)) 0)) ≡ holds (cond (is_eq (cmp q k)) (flagged y i) (seen cmp q cells)))
      (λ e. let g : cmp q k ≡ Greater = turned_less o k q e in rw g (hit_at_place cells h.1))
      (λ e. let g : cmp q k ≡ Equal = tied_back o k q e in rw g (sym (holds_flagged y i)))
      (λ e. let g : cmp q k ≡ Less = turned_greater o k q e in rw g (ap holds (sym (unseen cells (all_change (above_greater (Entry k i y l) g) cells h.0)))))
      (cmp k q) refl

  -- ---- the link where a search stops

  -- a cell that is not below q, and all behind it
  not_below : (c d : Cell K V) → is_lt (cmp (key_of c) q) ≡ false → place_cmp cmp c d ≡ Less → is_lt (cmp (key_of d) q) ≡ false
  not_below c d e p = go (cmp (key_of c) (key_of d)) (cmp (key_of d) q) refl refl p
    where
      less_not : cmp (key_of c) q ≡ Less → ⊥
      less_not f = let g : true ≡ false = sym (ap is_lt f) ∙ e in cc

      go : (r s : Ordering) → cmp (key_of c) (key_of d) ≡ r → cmp (key_of d) q ≡ s → ordering_then r (bool_cmp (is_look c) (is_look d)) ≡ Less → is_lt s ≡ false
      go r Equal f g p = refl
      go r Greater f g p = refl
      go Less Less f g p = absurd (less_not (o.trans (key_of c) (key_of d) q f g))
      go Equal Less f g p = absurd (less_not (o.congr (key_of c) (key_of d) q f ∙ g))
      go Greater Less f g p = cc

  all_not_below : (c : Cell K V) (cells : List (Cell K V)) → is_lt (cmp (key_of c) q) ≡ false → AllByRecursion (λ d. place_cmp cmp c d ≡ Less) cells → AllByRecursion (λ d. is_lt (cmp (key_of d) q) ≡ false) cells
  all_not_below c cells e = all_change (λ d p. not_below c d e p) cells

  below_no_look : (cells : List (Cell K V)) → AllByRecursion (λ d. is_lt (cmp (key_of d) q) ≡ false) cells → below cmp q (look_keys cells) ≡ 0
  below_no_look [] h = refl
  below_no_look (Entry k i y l ∷ cells) h = below_no_look cells h.1
  below_no_look (Look k l ∷ cells) h = ap (λ b. cond b (suc (below cmp q (look_keys cells))) 0) h.0

  below_no_eighth : (n : ℕ) (cells : List (Cell K V)) → AllByRecursion (λ d. is_lt (cmp (key_of d) q) ≡ false) cells → below cmp q (every_eighth n cells) ≡ 0
  below_no_eighth n [] h = refl
  below_no_eighth zero (c ∷ cells) h = ap (λ b. cond b (suc (below cmp q (every_eighth 7 cells))) 0) h.0
  below_no_eighth (suc n) (c ∷ cells) h = below_no_eighth n cells h.1

  -- the link where a search stops counts the lookahead cells whose keys are below q
  link_counts : (n : ℕ) (run : List (Cell K V)) → IsRising cmp run → IsLinked n run →
      option_map_or link_of (slice_get run (place cmp q run)) (8 * (n + length (look_keys run))) ≡ 8 * (n + below cmp q (look_keys run))
  unfolding IsStrictlySortedBy
  link_counts n [] h g = refl
  link_counts n (Entry k i y l ∷ cells) h g =
      by_bool (λ b. is_lt (cmp k q) ≡ b → option_map_or link_of (slice_get (Entry k i y l ∷ cells) (cond b (suc (place cmp q cells)) 0)) (8 * (n + length (look_keys cells))) ≡ 8 * (n + below cmp q (look_keys cells)))
      (λ e. link_counts n cells h.1 g.1)
      (λ e. let z = below_no_look cells (all_not_below (Entry k i y l) cells e h.0) in let f = g.0 in omega arith)
      (is_lt (cmp k q)) refl
  link_counts n (Look k l ∷ cells) h g =
      by_bool (λ b. option_map_or link_of (slice_get (Look k l ∷ cells) (cond b (suc (place cmp q cells)) 0)) (8 * (n + suc (length (look_keys cells)))) ≡ 8 * (n + cond b (suc (below cmp q (look_keys cells))) 0))
      (let rest = link_counts (suc n) cells h.1 g.1 in
      let e : suc n + length (look_keys cells) ≡ n + suc (length (look_keys cells)) = omega arith in
      let f : suc n + below cmp q (look_keys cells) ≡ n + suc (below cmp q (look_keys cells)) = omega arith in
      rw (← e, ← f) rest)
      (let f = g.0 in omega arith)
      (is_lt (cmp k q))

  -- the place of a key in a run, by the sampled keys below it
  place_by_sample : (n : ℕ) (run : List (Cell K V)) → n ≤ 7 → IsRising cmp run →
      (8 * below cmp q (every_eighth n run) ≤ place cmp q run + (7 - n)) × (place cmp q run + (7 - n) < 8 * below cmp q (every_eighth n run) + 8)
  unfolding IsStrictlySortedBy
  place_by_sample n [] m h = (omega arith, omega arith)
  place_by_sample zero (c ∷ cells) m h =
      let rest = place_by_sample 7 cells (omega arith) h.1 in let a = rest.0 in let b = rest.1 in
      by_bool (λ b. (8 * cond b (suc (below cmp q (every_eighth 7 cells))) 0 ≤ cond b (suc (place cmp q cells)) 0 + (7 - 0)) × (cond b (suc (place cmp q cells)) 0 + (7 - 0) < 8 * cond b (suc (below cmp q (every_eighth 7 cells))) 0 + 8))
      (omega arith, omega arith) (omega arith, omega arith) (is_lt (cmp (key_of c) q))
  place_by_sample (suc n) (c ∷ cells) m h =
      let rest = place_by_sample n cells (omega arith) h.1 in let a = rest.0 in let b = rest.1 in
      by_bool (λ b. is_lt (cmp (key_of c) q) ≡ b → (8 * below cmp q (every_eighth n cells) ≤ cond b (suc (place cmp q cells)) 0 + (7 - suc n)) × (cond b (suc (place cmp q cells)) 0 + (7 - suc n) < 8 * below cmp q (every_eighth n cells) + 8))
      (λ e. (omega arith, omega arith))
      (λ e. let z = below_no_eighth n cells (all_not_below c cells e h.0) in (omega arith, omega arith))
      (is_lt (cmp (key_of c) q)) refl

  -- the first cell at or above a key lies among the 8 cells that the link of the run above names
  pub place_in_window : (upper lower : List (Cell K V)) → IsWellFormed cmp upper → IsRising cmp lower → look_keys upper ≡ sample lower →
      (link_at upper (length lower) (place cmp q upper) ≤ place cmp q lower) × (place cmp q lower ≤ link_at upper (length lower) (place cmp q upper) + 7)
  place_in_window upper lower h g same =
      let counts = link_counts 0 upper h.rising h.linked in
      let sampled : 0 + length (look_keys upper) ≡ length lower / 8 = (let e = ap length same ∙ sample_length lower in omega arith) in
      let e : link_at upper (length lower) (place cmp q upper) ≡ 8 * (0 + below cmp q (look_keys upper)) =
      ap (λ m. option_map_or link_of (slice_get upper (place cmp q upper)) (8 * m)) (sym sampled) ∙ counts in
      let f = ap (below cmp q) same in
      let p = place_by_sample 7 lower (omega arith) g in
      let p0 = p.0 in let p1 = p.1 in
      (omega arith, omega arith)

  -- where the search of the first run may begin
  abbrev pub Begins : ℕ → List (List (Cell K V)) → Type 0
  Begins start [] = Unit {0}
  Begins start (run ∷ runs) = (start ≤ place cmp q run) × (place cmp q run ≤ start + 7)

  begins_next : (run : List (Cell K V)) (runs : List (List (Cell K V))) → AreSampled cmp (run ∷ runs) → Begins (link_at run (first_len runs) (place cmp q run)) runs
  begins_next run [] h = tt
  begins_next run (next ∷ runs) h = place_in_window run next h.0 h.2.0.rising h.1

  -- the search by links gives the answer of the runs
  pub finds_answer : (start : ℕ) (runs : List (List (Cell K V))) → AreSampled cmp runs → Begins start runs → find cmp q start runs ≡ answer cmp q runs
  finds_answer start [] h b = refl
  finds_answer start (run ∷ runs) h b =
      let stops = stops_at_place cmp q start run b.0 b.1 in
      let rest = finds_answer (link_at run (first_len runs) (place cmp q run)) runs h.2 (begins_next run runs h) in
      rw stops (ap (λ i. option_or i (find cmp q (link_at run (first_len runs) (place cmp q run)) runs)) (hit_at_place run h.0.rising) ∙ ap (option_or (holds (seen cmp q run))) rest)
