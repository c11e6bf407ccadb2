-- Orders, lists in order, and facts of each cell of a list.
use Rattle.std.proofs.Common.{◌≡◌, Bool, true, false, List, [], ◌∷◌, ◌++◌, refl, ap, ◌∙◌, Less, Equal, Greater, Ordering}
use Rattle.std.specs.Ordering.{ordering_reverse, is_eq, match_ordering}
use Rattle.std.specs.Cmp.{IsTotalOrder, then_total, on_total, bool_cmp_total}
use Rattle.std.specs.List.{AllByRecursion}
use Rattle.cola_runs.specs.Cells.{key_of, is_look, place_cmp}

-- ---- facts of each item of a list

module _ {X : Type 0} (P : X → Type 0) where
  pub all_append : (xs ys : List X) → AllByRecursion P xs → AllByRecursion P ys → AllByRecursion P (xs ++ ys)
  all_append [] ys h k = k
  all_append (x ∷ xs) ys h k = (h.0, all_append xs ys h.1 k)

module _ {X : Type 0} {P : X → Type 0} where
  pub all_change : {Q : X → Type 0} → ((x : X) → P x → Q x) → (xs : List X) → AllByRecursion P xs → AllByRecursion Q xs
  all_change f [] h = tt
  all_change f (x ∷ xs) h = (f x h.0, all_change f xs h.1)

-- ---- any total order

module _ {X : Type 0} {R : X → X → Ordering} (o : IsTotalOrder R) where
  pub turned_less : (x y : X) → R x y ≡ Less → R y x ≡ Greater
  turned_less x y e = o.antisymm y x ∙ ap ordering_reverse e

  pub turned_greater : (x y : X) → R x y ≡ Greater → R y x ≡ Less
  turned_greater x y e = o.antisymm y x ∙ ap ordering_reverse e

  -- what stands before y stands before all that y stands before
  pub all_above : (x y : X) → R x y ≡ Less → (ys : List X) → AllByRecursion (λ z. R y z ≡ Less) ys → AllByRecursion (λ z. R x z ≡ Less) ys
  all_above x y e = all_change (λ z h. o.trans x y z e h)

  -- the same for what stands beside y
  pub all_beside : (x y : X) → R x y ≡ Equal → (ys : List X) → AllByRecursion (λ z. R y z ≡ Less) ys → AllByRecursion (λ z. R x z ≡ Less) ys
  all_beside x y e = all_change (λ z h. o.congr x y z e ∙ h)

-- ---- three cases of a comparison

-- a fact of a choice by a comparison, by its three cases
pub match_three : {X : Type 0} (P : X → Type 0) (r : Ordering) (a b c : X) → (r ≡ Less → P a) → (r ≡ Equal → P b) → (r ≡ Greater → P c) → P (match_ordering r a b c)
match_three P Less a b c f g h = f refl
match_three P Equal a b c f g h = g refl
match_three P Greater a b c f g h = h refl

-- a family at each answer
pub by_ordering : (P : Ordering → Type 0) → P Less → P Equal → P Greater → (r : Ordering) → P r
by_ordering P f g h Less = f
by_ordering P f g h Equal = g
by_ordering P f g h Greater = h

pub by_bool : (P : Bool → Type 0) → P true → P false → (b : Bool) → P b
by_bool P f g true = f
by_bool P f g false = g

pub equal_is : (r : Ordering) → is_eq r ≡ true → r ≡ Equal
equal_is Less f = cc
equal_is Equal f = refl
equal_is Greater f = cc

-- ---- the order of cells

module _ {K V : Type 0} {cmp : K → K → Ordering} (o : IsTotalOrder cmp) where
  pub place_total : IsTotalOrder (place_cmp {V = V} cmp)
  place_total = then_total (on_total key_of o) (on_total is_look bool_cmp_total)
