-- A walk over a sorted list that turns at the last key that it gave.
use Rattle.std.proofs.Common.{◌≡◌, ◌&&◌, Bool, true, false, cond, T, List, [], ◌∷◌, ◌++◌, filter, reverse, ◌⊎◌, inl, inr, subst, Option, refl, sym, ap, ◌∙◌, Less, Equal, Greater, Ordering, append_assoc}
use Rattle.std.proofs.lemmas.List.{reverse-append}
use Rattle.std.specs.declared.ops.Bound.{Bound}
use Rattle.std.specs.declared.ops.Bound.TheVariants.{Included, Excluded, Unbounded}
use Rattle.std.specs.Ordering.{is_lt, is_le, ordering_reverse}
use Rattle.std.specs.Cmp.{IsTotalOrder}
use Rattle.std.specs.FinMap.{is_sorted}
use Rattle.std.specs.List.{AllByRecursion}
use Rattle.cola_pairs.proofs.Order.{by_bool, first, second, is_less}
use Rattle.cola_reverse.specs.Falling.{from_low, up_to, within_bounds, falling_pairs}
use Rattle.cola_reverse.proofs.Turned.{below_each}

le_less : (r : Ordering) → r ≡ Less → is_le r ≡ true
le_less Less e = refl
le_less Equal e = cc
le_less Greater e = cc

le_split : (r : Ordering) → is_le r ≡ true → (r ≡ Less) ⊎ (r ≡ Equal)
le_split Less e = inl refl
le_split Equal e = inr refl
le_split Greater e = cc

self_le : (r : Ordering) → r ≡ ordering_reverse r → is_le r ≡ true
self_le Less e = cc
self_le Equal e = refl
self_le Greater e = cc

not_le_back : (r s : Ordering) → s ≡ ordering_reverse r → r ≡ Less → is_le s ≡ false
not_le_back Less s e f = ap is_le e
not_le_back Equal s e f = cc
not_le_back Greater s e f = cc

and_false : (b : Bool) → (b && false) ≡ false
and_false true = refl
and_false false = refl

first_same : {X : Type 0} (a b : X) (xs ys : List X) → a ∷ xs ≡ b ∷ ys → a ≡ b
first_same a b xs ys e = cc

rest_same : {X : Type 0} (a b : X) (xs ys : List X) → a ∷ xs ≡ b ∷ ys → xs ≡ ys
rest_same a b xs ys e = cc

none_given : {X : Type 0} (given rest : List X) (x : X) → [] ≡ given ++ x ∷ rest → ⊥
none_given [] rest x e = cc
none_given (y ∷ given) rest x e = cc

module _ {K : Type 0} {cmp : K → K → Ordering} (o : IsTotalOrder cmp) where
  -- below a key that is within the bound all are
  closes : (hi : Bound K) (x y : K) → cmp x y ≡ Less → up_to cmp hi y ≡ true → up_to cmp hi x ≡ true
  closes Unbounded x y l h = refl
  closes (Excluded hi) x y l h = ap is_lt (o.trans x y hi l (is_less (cmp y hi) h))
  closes (Included hi) x y l h = go (le_split (cmp y hi) h)
    where
      go : (cmp y hi ≡ Less) ⊎ (cmp y hi ≡ Equal) → is_le (cmp x hi) ≡ true
      go (inl p) = ap is_le (o.trans x y hi l p)
      go (inr p) = le_less (cmp x hi) (after p)
        where
          after : cmp y hi ≡ Equal → cmp x hi ≡ Less
          after q = o.antisymm x hi ∙ ap ordering_reverse (sym (o.congr y hi x q)) ∙ sym (o.antisymm x y) ∙ l

module _ {K X : Type 0} {cmp : K → K → Ordering} (o : IsTotalOrder cmp) where
  module _ (lo : Option K) (hi : Bound K) where
    abbrev P : K × X → Bool
    P pair = within_bounds cmp lo hi pair.0

    -- what is kept of pairs above a key is above it and within the bound
    kept_above : (y k : K) (x : X) (given rest es : List (K × X)) → AllByRecursion (λ e. cmp y e.0 ≡ Less) es → filter P es ≡ given ++ (k, x) ∷ rest → (cmp y k ≡ Less) × (up_to cmp hi k ≡ true)
    kept_above y k x given rest [] h e = absurd (none_given given rest (k, x) e)
    kept_above y k x given rest (f ∷ es) h e =
        by_bool (λ b. from_low cmp lo f.0 ≡ b → cond (b && up_to cmp hi f.0) (f ∷ filter P es) (filter P es) ≡ given ++ (k, x) ∷ rest → (cmp y k ≡ Less) × (up_to cmp hi k ≡ true))
        (λ a. by_bool (λ b. up_to cmp hi f.0 ≡ b → cond b (f ∷ filter P es) (filter P es) ≡ given ++ (k, x) ∷ rest → (cmp y k ≡ Less) × (up_to cmp hi k ≡ true))
        (λ c g. taken (λ more i. kept_above y k x more rest es h.1 i) given c g) (λ c g. kept_above y k x given rest es h.1 g) (up_to cmp hi f.0) refl)
        (λ a g. kept_above y k x given rest es h.1 g) (from_low cmp lo f.0) refl e
      where
        taken : ((given : List (K × X)) → filter P es ≡ given ++ (k, x) ∷ rest → (cmp y k ≡ Less) × (up_to cmp hi k ≡ true)) → (given : List (K × X)) → up_to cmp hi f.0 ≡ true → f ∷ filter P es ≡ given ++ (k, x) ∷ rest → (cmp y k ≡ Less) × (up_to cmp hi k ≡ true)
        taken again [] c g =
            let s : f ≡ (k, x) = first_same f (k, x) (filter P es) rest g in
            (ap (λ (p : K × X). cmp y p.0) (sym s) ∙ h.0, ap (λ (p : K × X). up_to cmp hi p.0) (sym s) ∙ c)
        taken again (g0 ∷ given) c g = again given (rest_same f g0 (filter P es) (given ++ (k, x) ∷ rest) g)

    module _ (k : K) (x : X) where
      abbrev Q : K × X → Bool
      Q pair = within_bounds cmp lo (Included k) pair.0

      none_above : (es : List (K × X)) → AllByRecursion (λ e. cmp k e.0 ≡ Less) es → filter Q es ≡ []
      none_above [] h = refl
      none_above (f ∷ es) h =
          ap (λ b. cond (from_low cmp lo f.0 && b) (f ∷ filter Q es) (filter Q es)) (not_le_back (cmp k f.0) (cmp f.0 k) (o.antisymm f.0 k) h.0)
          ∙ ap (λ b. cond b (f ∷ filter Q es) (filter Q es)) (and_false (from_low cmp lo f.0)) ∙ none_above es h.1

      pub kept_back : (given rest es : List (K × X)) → T (is_sorted cmp es) → filter P es ≡ given ++ (k, x) ∷ rest → filter Q es ≡ given ++ (k, x) ∷ []
      kept_back given rest [] s e = absurd (none_given given rest (k, x) e)
      kept_back given rest (f ∷ es) s e =
          by_bool (λ b. from_low cmp lo f.0 ≡ b → cond (b && up_to cmp hi f.0) (f ∷ filter P es) (filter P es) ≡ given ++ (k, x) ∷ rest → cond (b && is_le (cmp f.0 k)) (f ∷ filter Q es) (filter Q es) ≡ given ++ (k, x) ∷ [])
          (λ a. by_bool (λ b. up_to cmp hi f.0 ≡ b → cond b (f ∷ filter P es) (filter P es) ≡ given ++ (k, x) ∷ rest → cond (is_le (cmp f.0 k)) (f ∷ filter Q es) (filter Q es) ≡ given ++ (k, x) ∷ [])
          (λ c g. taken (λ more i. kept_back more rest es (second _ _ s) i) given g) (λ c g. outside c g) (up_to cmp hi f.0) refl)
          (λ a g. kept_back given rest es (second _ _ s) g) (from_low cmp lo f.0) refl e
        where
          above : AllByRecursion (λ e. cmp f.0 e.0 ≡ Less) es
          above = below_each cmp f.0 es (first _ _ s)

          outside : up_to cmp hi f.0 ≡ false → filter P es ≡ given ++ (k, x) ∷ rest → cond (is_le (cmp f.0 k)) (f ∷ filter Q es) (filter Q es) ≡ given ++ (k, x) ∷ []
          outside c g =
              let r = kept_above f.0 k x given rest es above g in
              let t : up_to cmp hi f.0 ≡ true = closes o hi f.0 k r.0 r.1 in
              absurd (cc)

          taken : ((given : List (K × X)) → filter P es ≡ given ++ (k, x) ∷ rest → filter Q es ≡ given ++ (k, x) ∷ []) → (given : List (K × X)) → f ∷ filter P es ≡ given ++ (k, x) ∷ rest → cond (is_le (cmp f.0 k)) (f ∷ filter Q es) (filter Q es) ≡ given ++ (k, x) ∷ []
          taken again [] g =
              let same : f ≡ (k, x) = first_same f (k, x) (filter P es) rest g in
              let key : f.0 ≡ k = ap (λ (p : K × X). p.0) same in
              let le : is_le (cmp f.0 k) ≡ true = ap (λ z. is_le (cmp z k)) key ∙ self_le (cmp k k) (o.antisymm k k) in
              let none : filter Q es ≡ [] = none_above es (subst (λ z. AllByRecursion (λ e. cmp z e.0 ≡ Less) es) key above) in
              ap (λ b. cond b (f ∷ filter Q es) (filter Q es)) le ∙ ap (λ zs. f ∷ zs) none ∙ ap (λ z. z ∷ []) same
          taken again (g0 ∷ given) g =
              let same : f ≡ g0 = first_same f g0 (filter P es) (given ++ (k, x) ∷ rest) g in
              let more = rest_same f g0 (filter P es) (given ++ (k, x) ∷ rest) g in
              let l = (kept_above f.0 k x given rest es above more).0 in
              ap (λ b. cond b (f ∷ filter Q es) (filter Q es)) (le_less (cmp f.0 k) l) ∙ ap (λ z. z ∷ filter Q es) same
              ∙ ap (λ zs. g0 ∷ zs) (again given more)

    pub gives_back : (k : K) (x : X) (given rest es : List (K × X)) → T (is_sorted cmp es) → filter P es ≡ (given ++ (k, x) ∷ []) ++ rest → falling_pairs cmp lo (Included k) es ≡ (k, x) ∷ reverse given
    gives_back k x given rest es s e =
        ap reverse (kept_back k x given rest es s (e ∙ append_assoc given ((k, x) ∷ []) rest)) ∙ reverse-append given ((k, x) ∷ [])
