-- A walk from the upper end of an interval down.
use Rattle.std.proofs.Common.{◌≡◌, ℕ, zero, suc, Bool, true, false, cond, List, [], ◌∷◌, ◌++◌, refl, sym, ap, ◌∙◌, Less, Ordering, filter, take, None, Some, Option, ◌&&◌, IsTrue, map, reverse}
use Rattle.std.proofs.lemmas.List.{reverse-reverse}
use Rattle.std.proofs.lemmas.List.Elements.{filter-append}
use Rattle.std.specs.Ordering.{is_lt, is_le, flip_args, ordering_reverse}
use Rattle.std.specs.Cmp.{IsTotalOrder, back_total}
use Rattle.std.specs.FinMap.{IsAntisymmetric}
use Rattle.std.specs.List.{AllByRecursion}
use Rattle.std.specs.List.Sorted.{IsStrictlySortedBy}
use Rattle.cola_runs.specs.Cells.{Cell, Entry, Look, Item, Value, Tombstone, key_of, place_cmp, IsRising}
use Rattle.cola_runs.specs.Search.{place}
use Rattle.cola_runs.specs.Seen.{answer}
use Rattle.cola_pairs.specs.Live.{items, entries, values, placed, with_answer, live, below_end}
use Rattle.cola_pairs.specs.Walk.{Closes, KeysOnward, pass_key, pass_keys, first_passed, WalksWithin}
use Rattle.cola_pairs.proofs.Order.{by_bool, by_ordering}
use Rattle.cola_pairs.proofs.LivePairs.{all_rising_onward, none_below}
use Rattle.cola_pairs.proofs.Onward.{left_keeps, live_step, walk_lives, first_is_answer}
use Rattle.cola_reverse.specs.Falling.{IsFalling, front_below, fronts_below, from_low, leave_key, leave_keys, LastsUpTo}
use Rattle.cola_reverse.proofs.Turned.{sorted_reverse, all_map_reverse, reverse_first, falling_onward, live_reverse, answer_reverse}

-- ---- the lower end, from above

module _ {K : Type 0} {cmp : K → K → Ordering} (o : IsTotalOrder cmp) where
  le_lt : (x y : K) → is_le (cmp x y) ≡ false → cmp y x ≡ Less
  le_lt x y e =
      by_ordering (λ r. cmp x y ≡ r → is_le r ≡ false → cmp y x ≡ Less) (λ f g. cc) (λ f g. cc)
      (λ f g. o.antisymm y x ∙ ap ordering_reverse f) (cmp x y) refl e

  lt_le : (x y : K) → cmp y x ≡ Less → is_le (cmp x y) ≡ false
  lt_le x y e = ap is_le (o.antisymm x y ∙ ap ordering_reverse e)

  -- below a key that is below the lower end all are
  pub low_closes : (lo : Option K) → Closes (flip_args cmp) (from_low cmp lo)
  low_closes None x y e f = cc
  low_closes (Some lo) x y e f =
      let l = le_lt lo x e in
      lt_le lo y (by_ordering (λ r. cmp x y ≡ r → cmp y lo ≡ Less)
      (λ g. let h = ap is_lt g in absurd (cc))
      (λ g. sym (o.congr x y lo g) ∙ l)
      (λ g. o.trans y x lo (o.antisymm y x ∙ ap ordering_reverse g) l)
      (cmp x y) refl)

-- ---- the cells below the upper end

append_none : {X : Type 0} (xs : List X) → xs ++ [] ≡ xs
append_none [] = refl
append_none (x ∷ xs) = ap (λ z. x ∷ z) (append_none xs)

and_true : (b : Bool) → (b && true) ≡ b
and_true true = refl
and_true false = refl

and_false : (b : Bool) → (b && false) ≡ false
and_false true = refl
and_false false = refl

module _ {K V : Type 0} {cmp : K → K → Ordering} (o : IsTotalOrder cmp) where
  pub rising_take : (n : ℕ) (run : List (Cell K V)) → IsRising cmp run → IsRising cmp (take n run)
  unfolding IsStrictlySortedBy
  rising_take zero run h = tt
  rising_take (suc n) [] h = tt
  rising_take (suc n) (c ∷ cells) h = (all_take n cells h.0, rising_take n cells h.1)
    where
      all_take : (n : ℕ) (cells : List (Cell K V)) → AllByRecursion (λ d. place_cmp cmp c d ≡ Less) cells → AllByRecursion (λ d. place_cmp cmp c d ≡ Less) (take n cells)
      all_take zero cells h = tt
      all_take (suc n) [] h = tt
      all_take (suc n) (d ∷ cells) h = (h.0, all_take n cells h.1)

  pub rising_fronts : (hi : Option K) (runs : List (List (Cell K V))) → AllByRecursion (IsRising cmp) runs → AllByRecursion (IsRising cmp) (fronts_below cmp hi runs)
  rising_fronts hi [] h = tt
  rising_fronts None (run ∷ runs) h = (h.0, rising_fronts None runs h.1)
  rising_fronts (Some hi) (run ∷ runs) h = (rising_take (place cmp hi run) run h.0, rising_fronts (Some hi) runs h.1)

  module _ (lo : Option K) where
    abbrev inner : Option K → K × Item V → Bool
    inner hi e = from_low cmp lo e.0 && below_end cmp hi e.0

    abbrev low : K × Item V → Bool
    low e = from_low cmp lo e.0

    none_within : (hi : K) (cells : List (Cell K V)) → AllByRecursion (λ d. is_lt (cmp (key_of d) hi) ≡ false) cells → filter (inner (Some hi)) (items cells) ≡ []
    none_within hi [] h = refl
    none_within hi (Look k l ∷ cells) h = none_within hi cells h.1
    none_within hi (Entry k i y l ∷ cells) h =
        ap (λ b. cond (from_low cmp lo k && b) ((k, i) ∷ filter (inner (Some hi)) (items cells)) (filter (inner (Some hi)) (items cells))) h.0
        ∙ ap (λ b. cond b ((k, i) ∷ filter (inner (Some hi)) (items cells)) (filter (inner (Some hi)) (items cells))) (and_false (from_low cmp lo k))
        ∙ none_within hi cells h.1

    unbounded : (run : List (Cell K V)) → filter (inner None) (items run) ≡ filter low (items run)
    unbounded [] = refl
    unbounded (Look k l ∷ cells) = unbounded cells
    unbounded (Entry k i y l ∷ cells) =
        ap (λ b. cond b ((k, i) ∷ filter (inner None) (items cells)) (filter (inner None) (items cells))) (and_true (from_low cmp lo k))
        ∙ ap (λ es. cond (from_low cmp lo k) ((k, i) ∷ es) es) (unbounded cells)

    run_below : (hi : K) (run : List (Cell K V)) → KeysOnward cmp run → filter (inner (Some hi)) (items run) ≡ filter low (items (take (place cmp hi run) run))
    run_below hi [] h = refl
    run_below hi (Look k l ∷ cells) h =
        by_bool (λ b. is_lt (cmp k hi) ≡ b → filter (inner (Some hi)) (items cells) ≡ filter low (items (take (cond b (suc (place cmp hi cells)) 0) (Look k l ∷ cells))))
        (λ e. run_below hi cells h.1)
        (λ e. none_within hi cells (none_below o hi (Look k l) cells e h).1)
        (is_lt (cmp k hi)) refl
    run_below hi (Entry k i y l ∷ cells) h =
        by_bool (λ b. is_lt (cmp k hi) ≡ b → filter (inner (Some hi)) (items (Entry k i y l ∷ cells)) ≡ filter low (items (take (cond b (suc (place cmp hi cells)) 0) (Entry k i y l ∷ cells))))
        (λ e. ap (λ b. cond (from_low cmp lo k && b) ((k, i) ∷ filter (inner (Some hi)) (items cells)) (filter (inner (Some hi)) (items cells))) e
        ∙ ap (λ b. cond b ((k, i) ∷ filter (inner (Some hi)) (items cells)) (filter (inner (Some hi)) (items cells))) (and_true (from_low cmp lo k))
        ∙ ap (λ es. cond (from_low cmp lo k) ((k, i) ∷ es) es) (run_below hi cells h.1))
        (λ e. none_within hi (Entry k i y l ∷ cells) (none_below o hi (Entry k i y l) cells e h))
        (is_lt (cmp k hi)) refl

    front_items : (hi : Option K) (run : List (Cell K V)) → KeysOnward cmp run → filter (inner hi) (items run) ≡ filter low (items (front_below cmp hi run))
    front_items None run h = unbounded run
    front_items (Some hi) run h = run_below hi run h

    entries_below : (hi : Option K) (runs : List (List (Cell K V))) → AllByRecursion (KeysOnward cmp) runs → filter (inner hi) (entries runs) ≡ filter low (entries (fronts_below cmp hi runs))
    entries_below hi [] h = refl
    entries_below hi (run ∷ runs) h =
        filter-append (inner hi) (items run) (entries runs)
        ∙ ap (λ es. es ++ filter (inner hi) (entries runs)) (front_items hi run h.0)
        ∙ ap (λ es. filter low (items (front_below cmp hi run)) ++ es) (entries_below hi runs h.1)
        ∙ sym (filter-append low (items (front_below cmp hi run)) (entries (fronts_below cmp hi runs)))

    -- the live pairs of an interval are those from its lower end on among the cells below its upper end
    pub live_below_places : (hi : Option K) (runs : List (List (Cell K V))) → AllByRecursion (IsRising cmp) runs → live cmp (λ k. from_low cmp lo k && below_end cmp hi k) runs ≡ live cmp (from_low cmp lo) (fronts_below cmp hi runs)
    unfolding live
    live_below_places hi runs h = ap (λ es. values (placed cmp es)) (entries_below hi runs (all_rising_onward o runs h))

  -- ---- a falling step

  pub onward_back : (runs : List (List (Cell K V))) → AllByRecursion (IsRising cmp) runs → AllByRecursion (KeysOnward (flip_args cmp)) (map reverse runs)
  onward_back = all_map_reverse (IsRising cmp) (KeysOnward (flip_args cmp)) (λ run h. falling_onward o (reverse run) (sorted_reverse (place_cmp cmp) run h))

  falling_passed : (k : K) (run : List (Cell K V)) → IsFalling cmp run → IsFalling cmp (pass_key (flip_args cmp) k run)
  unfolding IsStrictlySortedBy
  falling_passed = left_keeps (flip_args cmp) (IsFalling cmp) (λ c cells h. h.1)

  rising_left : (k : K) (run : List (Cell K V)) → IsRising cmp run → IsRising cmp (leave_key cmp k run)
  rising_left k run h = sorted_reverse (flip_args (place_cmp cmp)) (pass_key (flip_args cmp) k (reverse run)) (falling_passed k (reverse run) (sorted_reverse (place_cmp cmp) run h))

  pub all_rising_left : (k : K) (runs : List (List (Cell K V))) → AllByRecursion (IsRising cmp) runs → AllByRecursion (IsRising cmp) (leave_keys cmp k runs)
  all_rising_left k [] h = tt
  all_rising_left k (run ∷ runs) h = (rising_left k run h.0, all_rising_left k runs h.1)

  back_left : (k : K) (runs : List (List (Cell K V))) → map reverse (leave_keys cmp k runs) ≡ pass_keys (flip_args cmp) k (map reverse runs)
  back_left k [] = refl
  back_left k (run ∷ runs) =
      ap (λ z. z ∷ map reverse (leave_keys cmp k runs)) (reverse-reverse (pass_key (flip_args cmp) k (reverse run)))
      ∙ ap (λ z. pass_key (flip_args cmp) k (reverse run) ∷ z) (back_left k runs)

  answer_last : (k : K) (a : Option (Item V)) (pairs : List (K × V)) → reverse (with_answer k a (reverse pairs)) ≡ pairs ++ with_answer k a []
  answer_last k None pairs = reverse-reverse pairs ∙ sym (append_none pairs)
  answer_last k (Some Tombstone) pairs = reverse-reverse pairs ∙ sym (append_none pairs)
  answer_last k (Some (Value v)) pairs = reverse_first (k, v) (reverse pairs) ∙ ap (λ z. z ++ ((k, v) ∷ [])) (reverse-reverse pairs)

  -- a falling step: where no run ends with a key above k, the live pairs are those without the cells of k at the ends, and behind them what the runs have of k
  pub falls : IsAntisymmetric cmp → (within : K → Bool) (k : K) (runs : List (List (Cell K V))) → AllByRecursion (IsRising cmp) runs → IsTrue (within k) → LastsUpTo cmp k runs →
      live cmp within runs ≡ live cmp within (leave_keys cmp k runs) ++ with_answer k (answer cmp k runs) []
  falls same within k runs h b p =
      let back = back_total o in
      let alike : IsAntisymmetric (flip_args cmp) = λ x y e. sym (same y x e) in
      sym (reverse-reverse (live cmp within runs))
      ∙ ap reverse (sym (live_reverse o same within runs h)
      ∙ live_step back alike within k (map reverse runs) (onward_back runs h) p b
      ∙ ap (λ a. with_answer k a (live (flip_args cmp) within (pass_keys (flip_args cmp) k (map reverse runs)))) (answer_reverse o k runs h)
      ∙ ap (λ z. with_answer k (answer cmp k runs) (live (flip_args cmp) within z)) (sym (back_left k runs))
      ∙ ap (with_answer k (answer cmp k runs)) (live_reverse o same within (leave_keys cmp k runs) (all_rising_left k runs h)))
      ∙ answer_last k (answer cmp k runs) (live cmp within (leave_keys cmp k runs))

  -- what it passes: of equal keys the first run that has an item decides
  pub last_is_answer : (k : K) (runs : List (List (Cell K V))) → AllByRecursion (IsRising cmp) runs → LastsUpTo cmp k runs → first_passed (flip_args cmp) k (map reverse runs) ≡ answer cmp k runs
  last_is_answer k runs h p = first_is_answer (back_total o) k (map reverse runs) (onward_back runs h) p ∙ answer_reverse o k runs h

  -- a falling walk from the upper end gives the live pairs of the interval in falling order, each once
  pub falling_walk : IsAntisymmetric cmp → (lo hi : Option K) (runs : List (List (Cell K V))) (pairs : List (K × V)) → AllByRecursion (IsRising cmp) runs →
      WalksWithin (flip_args cmp) (from_low cmp lo) (map reverse (fronts_below cmp hi runs)) pairs → pairs ≡ reverse (live cmp (λ k. from_low cmp lo k && below_end cmp hi k) runs)
  falling_walk same lo hi runs pairs h w =
      let fronts = rising_fronts hi runs h in
      walk_lives (back_total o) (from_low cmp lo) (low_closes o lo) (λ x y e. sym (same y x e)) (map reverse (fronts_below cmp hi runs)) pairs (onward_back (fronts_below cmp hi runs) fronts) w
      ∙ live_reverse o same (from_low cmp lo) (fronts_below cmp hi runs) fronts
      ∙ ap reverse (sym (live_below_places lo hi runs h))
