-- Orders and tests.
use Rattle.std.proofs.Common.{◌≡◌, Bool, true, false, ◌&&◌, T, refl, sym, ap, ◌∙◌, Less, Equal, Greater, Ordering, List, [], ◌∷◌}
use Rattle.std.specs.Ordering.{ordering_reverse, is_lt, is_eq}
use Rattle.std.specs.Cmp.{IsTotalOrder, tied_itself, alike_right}
use Rattle.std.specs.List.{AllByRecursion}

pub by_bool : (P : Bool → Type 0) → P true → P false → (b : Bool) → P b
by_bool P f g true = f
by_bool P f g false = g

pub by_ordering : (P : Ordering → Type 0) → P Less → P Equal → P Greater → (r : Ordering) → P r
by_ordering P f g h Less = f
by_ordering P f g h Equal = g
by_ordering P f g h Greater = h

-- a test that is passed, and back
pub holds : (b : Bool) → T b → b ≡ true
holds true h = refl
holds false h = absurd h

pub passed : (b : Bool) → b ≡ true → T b
passed true e = tt
passed false e = cc

pub both : (a b : Bool) → T a → T b → T (a && b)
both true b p q = q
both false b p q = p

pub first : (a b : Bool) → T (a && b) → T a
first true b p = tt
first false b p = p

pub second : (a b : Bool) → T (a && b) → T b
second true b p = p
second false b p = absurd p

pub less : (r : Ordering) → T (is_lt r) → r ≡ Less
less Less p = refl
less Equal p = absurd p
less Greater p = absurd p

pub equal : (r : Ordering) → is_eq r ≡ true → r ≡ Equal
equal Less e = cc
equal Equal e = refl
equal Greater e = cc

pub is_less : (r : Ordering) → is_lt r ≡ true → r ≡ Less
is_less Less e = refl
is_less Equal e = cc
is_less Greater e = cc

module _ {X : Type 0} {P : X → Type 0} where
  pub all_change : {Q : X → Type 0} → ((x : X) → P x → Q x) → (xs : List X) → AllByRecursion P xs → AllByRecursion Q xs
  all_change f [] h = tt
  all_change f (x ∷ xs) h = (f x h.0, all_change f xs h.1)

module _ {K : Type 0} {cmp : K → K → Ordering} (o : IsTotalOrder cmp) where
  pub turned_greater : (x y : K) → cmp x y ≡ Greater → cmp y x ≡ Less
  turned_greater x y e = o.antisymm y x ∙ ap ordering_reverse e

  pub turned_less : (x y : K) → cmp x y ≡ Less → cmp y x ≡ Greater
  turned_less x y e = o.antisymm y x ∙ ap ordering_reverse e

  -- not below k and not beside it is above
  pub above_head : (k x : K) → is_lt (cmp x k) ≡ false → is_eq (cmp k x) ≡ false → cmp k x ≡ Less
  above_head k x e f =
      by_ordering (λ r. cmp k x ≡ r → r ≡ Less) (λ g. refl) (λ g. let h = ap is_eq g in absurd (cc)) (λ g. let h = ap is_lt (turned_greater k x g) in absurd (cc)) (cmp k x) refl

  -- y is not below x, and x not below z
  pub not_below_then : (x y z : K) → is_lt (cmp y x) ≡ false → is_lt (cmp x z) ≡ false → is_lt (cmp y z) ≡ false
  not_below_then x y z e f =
      by_ordering (λ r. cmp x y ≡ r → is_lt (cmp y z) ≡ false)
      (λ g. by_bool (λ b. is_lt (cmp y z) ≡ b → b ≡ false) (λ h. let i = ap is_lt (o.trans x y z g (is_less _ h)) in cc) (λ h. refl) (is_lt (cmp y z)) refl)
      (λ g. ap is_lt (sym (o.congr x y z g)) ∙ f)
      (λ g. let h = ap is_lt (turned_greater x y g) in absurd (cc))
      (cmp x y) refl

  pub less_then : (k x y : K) → cmp k x ≡ Less → is_lt (cmp y x) ≡ false → cmp k y ≡ Less
  less_then k x y e f =
      by_ordering (λ r. cmp x y ≡ r → cmp k y ≡ Less)
      (λ g. o.trans k x y e g)
      (λ g. sym (alike_right o x y k g) ∙ e)
      (λ g. let h = ap is_lt (turned_greater x y g) in absurd (cc))
      (cmp x y) refl

  pub not_below_itself : (k : K) → cmp k k ≡ Less → ⊥
  not_below_itself k l = let h = ap is_lt l in let i = ap is_lt (tied_itself o k) in cc

  -- a key that ties with one ties with what that ties with
  pub tied_alike : (q k x : K) → is_eq (cmp k x) ≡ true → is_eq (cmp q x) ≡ is_eq (cmp q k)
  tied_alike q k x e = ap is_eq (sym (alike_right o k x q (equal _ e)))
