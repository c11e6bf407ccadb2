-- The parts of a weave are in order.
use Rattle.std.proofs.Common.{◌≡◌, ℕ, suc, ◌*◌, Bool, false, cond, List, [], ◌∷◌, refl, Less, Ordering, map}
use Rattle.std.specs.Cmp.{IsTotalOrder}
use Rattle.std.specs.List.{AllByRecursion}
use Rattle.std.specs.List.Sorted.{IsStrictlySortedBy}
use Rattle.std.proofs.lemmas.List.Kept.{IsStrictlySortedBy-filter}
use Rattle.cola_runs.specs.Cells.{Cell, Entry, Look, place_cmp, IsRising, IsLinked, IsWellFormed}
use Rattle.cola_runs.specs.Weave.{Part, taken, taken_own, taken_incoming, stays, look_at, relinked, set_cells, unlinked, weave}
use Rattle.cola_runs.proofs.Order.{by_bool}
use Rattle.cola_runs.proofs.Sets.{rising_sets}

module _ {K V : Type 0} (cmp : K → K → Ordering) where
  -- a fact of the places of all cells is one of those that are taken
  pub all_taken : (c : Cell K V) (wanted : Bool → Bool) (y : Bool) (cells : List (Cell K V)) →
      AllByRecursion (λ d. place_cmp cmp c d ≡ Less) cells → AllByRecursion (λ d. place_cmp cmp c d ≡ Less) (taken wanted y cells)
  all_taken c wanted y [] h = tt
  all_taken c wanted y (Look k l ∷ cells) h = all_taken c wanted y cells h.1
  all_taken c wanted y (Entry k i x l ∷ cells) h =
      let rest = all_taken c wanted y cells h.1 in
      by_bool (λ w. AllByRecursion (λ d. place_cmp cmp c d ≡ Less) (cond w (Entry k i y 0 ∷ taken wanted y cells) (taken wanted y cells))) (h.0, rest) rest (wanted x)

  pub rising_taken : (wanted : Bool → Bool) (y : Bool) (cells : List (Cell K V)) → IsRising cmp cells → IsRising cmp (taken wanted y cells)
  unfolding IsStrictlySortedBy
  rising_taken wanted y [] h = tt
  rising_taken wanted y (Look k l ∷ cells) h = rising_taken wanted y cells h.1
  rising_taken wanted y (Entry k i x l ∷ cells) h =
      let rest = rising_taken wanted y cells h.1 in
      by_bool (λ w. IsRising cmp (cond w (Entry k i y 0 ∷ taken wanted y cells) (taken wanted y cells))) (all_taken (Entry k i y 0) wanted y cells h.0, rest) rest (wanted x)

  pub all_relinked : (c : Cell K V) (n : ℕ) (cells : List (Cell K V)) →
      AllByRecursion (λ d. place_cmp cmp c d ≡ Less) cells → AllByRecursion (λ d. place_cmp cmp c d ≡ Less) (relinked n cells)
  all_relinked c n [] h = tt
  all_relinked c n (Look k l ∷ cells) h = (h.0, all_relinked c (suc n) cells h.1)
  all_relinked c n (Entry k i x l ∷ cells) h = (h.0, all_relinked c n cells h.1)

  pub rising_relinked : (n : ℕ) (cells : List (Cell K V)) → IsRising cmp cells → IsRising cmp (relinked n cells)
  unfolding IsStrictlySortedBy
  rising_relinked n [] h = tt
  rising_relinked n (Look k l ∷ cells) h = (all_relinked (Look k (8 * n)) (suc n) cells h.0, rising_relinked (suc n) cells h.1)
  rising_relinked n (Entry k i x l ∷ cells) h = (all_relinked (Entry k i x (8 * n)) n cells h.0, rising_relinked n cells h.1)

-- the links of a run
pub linked_relinked : {K V : Type 0} (n : ℕ) (cells : List (Cell K V)) → IsLinked n (relinked n cells)
linked_relinked n [] = tt
linked_relinked n (Look k l ∷ cells) = (refl, linked_relinked (suc n) cells)
linked_relinked n (Entry k i x l ∷ cells) = (refl, linked_relinked n cells)

module _ {K V : Type 0} {cmp : K → K → Ordering} (o : IsTotalOrder cmp) (part : Part) (own incoming : List (Cell K V)) (h : IsRising cmp own) where
  -- the items of a weave, before the lookahead cells
  pub rising_items : IsRising cmp (set_cells cmp (taken_incoming part incoming) (taken_own part own))
  rising_items = rising_sets o (taken_incoming part incoming) (taken_own part own) (rising_taken cmp _ false own h)

  pub rising_unlinked : (keys : List K) → IsRising cmp (unlinked cmp part own incoming keys)
  unfolding unlinked
  rising_unlinked keys = rising_sets o (map look_at keys) _ (IsStrictlySortedBy-filter (place_cmp cmp) (stays part) _ rising_items)

  pub formed_weave : (keys : List K) → IsWellFormed cmp (weave cmp part own incoming keys)
  unfolding weave
  formed_weave keys = record { rising = rising_relinked cmp 0 (unlinked cmp part own incoming keys) (rising_unlinked keys); linked = linked_relinked 0 (unlinked cmp part own incoming keys) }
