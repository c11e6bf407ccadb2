-- A key is below another one and a zero byte where it is not above that other one.
use Rattle.std.proofs.Common.{◌≡◌, ℕ, false, List, [], ◌∷◌, ◌++◌, ◌<◌, refl, sym, arith, Less, Equal, Greater, Ordering}
use Rattle.std.specs.Ordering.{is_lt, is_le, nat_cmp, ordering_then}
use Rattle.std.proofs.lemmas.Cmp.{ranked}
use Rattle.std.specs.Cmp.Lexicographic.{slice_cmp}

by_ordering : (P : Ordering → Type 0) → P Less → P Equal → P Greater → (r : Ordering) → P r
by_ordering P f g h Less = f
by_ordering P f g h Equal = g
by_ordering P f g h Greater = h

not_before_none : (xs : List ℕ) → is_lt (slice_cmp nat_cmp xs []) ≡ false
not_before_none [] = refl
not_before_none (x ∷ xs) = refl

past_zero : (x : ℕ) (xs : List ℕ) → is_lt (slice_cmp nat_cmp (x ∷ xs) (0 ∷ [])) ≡ false
past_zero x xs =
    by_ordering (λ r. nat_cmp x 0 ≡ r → is_lt (ordering_then r (slice_cmp nat_cmp xs [])) ≡ false)
    (λ e. let l : x < 0 = ranked x 0 Less (sym e) in absurd (omega arith)) (λ e. not_before_none xs) (λ e. refl) (nat_cmp x 0) refl

pub over : (k q : List ℕ) → is_lt (slice_cmp nat_cmp k (q ++ (0 ∷ []))) ≡ is_le (slice_cmp nat_cmp k q)
over [] [] = refl
over [] (y ∷ ys) = refl
over (x ∷ xs) [] = past_zero x xs
over (x ∷ xs) (y ∷ ys) =
    by_ordering (λ r. is_lt (ordering_then r (slice_cmp nat_cmp xs (ys ++ (0 ∷ [])))) ≡ is_le (ordering_then r (slice_cmp nat_cmp xs ys)))
    refl (over xs ys) refl (nat_cmp x y)
