-- Cells set into a list in order.
use Rattle.std.proofs.Common.{◌≡◌, List, [], ◌∷◌, refl, ap, ◌∙◌, Less, Ordering}
use Rattle.std.specs.Ordering.{match_ordering}
use Rattle.std.specs.Cmp.{IsTotalOrder}
use Rattle.std.specs.List.{AllByRecursion}
use Rattle.std.specs.List.Sorted.{IsStrictlySortedBy}
use Rattle.cola_runs.specs.Cells.{Cell, place_cmp, IsRising}
use Rattle.cola_runs.specs.Weave.{set_cell, set_cells}
use Rattle.cola_runs.proofs.Order.{all_above, all_beside, turned_greater, turned_less, match_three, place_total}

module _ {K V : Type 0} (cmp : K → K → Ordering) where
  -- a fact of the cell and of each cell of the list holds of each cell of the result
  pub all_set : (P : Cell K V → Type 0) (c : Cell K V) → P c → (cells : List (Cell K V)) → AllByRecursion P cells → AllByRecursion P (set_cell cmp c cells)
  all_set P c p [] h = (p, tt)
  all_set P c p (d ∷ cells) h =
      match_three (AllByRecursion P) (place_cmp cmp c d) (c ∷ d ∷ cells) (c ∷ cells) (d ∷ set_cell cmp c cells)
      (λ e. (p, h)) (λ e. (p, h.1)) (λ e. (h.0, all_set P c p cells h.1))

  pub all_sets : (P : Cell K V → Type 0) (cells base : List (Cell K V)) → AllByRecursion P cells → AllByRecursion P base → AllByRecursion P (set_cells cmp cells base)
  all_sets P [] base h k = k
  all_sets P (c ∷ cells) base h k = all_set P c h.0 (set_cells cmp cells base) (all_sets P cells base h.1 k)

  -- a cell that stands before all others goes in front
  pub set_first : (c : Cell K V) (cells : List (Cell K V)) → AllByRecursion (λ d. place_cmp cmp c d ≡ Less) cells → set_cell cmp c cells ≡ c ∷ cells
  set_first c [] h = refl
  set_first c (d ∷ cells) h = ap (λ r. match_ordering r (c ∷ d ∷ cells) (c ∷ cells) (d ∷ set_cell cmp c cells)) h.0

module _ {K V : Type 0} {cmp : K → K → Ordering} (o : IsTotalOrder cmp) where
  -- a cell above the first one goes behind it
  pub set_behind : (c d : Cell K V) (cells : List (Cell K V)) → place_cmp cmp d c ≡ Less → set_cell cmp c (d ∷ cells) ≡ d ∷ set_cell cmp c cells
  set_behind c d cells e = ap (λ r. match_ordering r (c ∷ d ∷ cells) (c ∷ cells) (d ∷ set_cell cmp c cells)) (turned_less (place_total o) d c e)

  -- cells above the first one all go behind it
  pub sets_behind : (d : Cell K V) (cells base : List (Cell K V)) → AllByRecursion (λ c. place_cmp cmp d c ≡ Less) cells → set_cells cmp cells (d ∷ base) ≡ d ∷ set_cells cmp cells base
  sets_behind d [] base h = refl
  sets_behind d (c ∷ cells) base h =
      ap (set_cell cmp c) (sets_behind d cells base h.1) ∙ set_behind c d (set_cells cmp cells base) h.0

  -- the result is in order
  pub rising_set : (c : Cell K V) (cells : List (Cell K V)) → IsRising cmp cells → IsRising cmp (set_cell cmp c cells)
  unfolding IsStrictlySortedBy
  rising_set c [] h = (tt, tt)
  rising_set c (d ∷ cells) h =
      match_three (IsRising cmp) (place_cmp cmp c d) (c ∷ d ∷ cells) (c ∷ cells) (d ∷ set_cell cmp c cells)
      (λ e. ((e, all_above (place_total o) c d e cells h.0), h))
      (λ e. (all_beside (place_total o) c d e cells h.0, h.1))
      (λ e. (all_set cmp (λ z. place_cmp cmp d z ≡ Less) c (turned_greater (place_total o) c d e) cells h.0, rising_set c cells h.1))

  pub rising_sets : (cells base : List (Cell K V)) → IsRising cmp base → IsRising cmp (set_cells cmp cells base)
  rising_sets [] base h = h
  rising_sets (c ∷ cells) base h = rising_set c (set_cells cmp cells base) (rising_sets cells base h)
