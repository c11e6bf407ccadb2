-- How many clocks of a period a level works at, and at how many levels a mutation works.
use Rattle.std.proofs.Common.{◌≡◌, inl, inr, ℕ, zero, suc, ◌+◌, ◌-◌, ◌*◌, ◌%◌, ◌^◌, ◌≤◌, min, ◌&&◌, cond, ltb, leb, refl, ◌∙◌, arith}
use Rattle.std.proofs.lemmas.Bool.{cases_Bool}
use Rattle.std.proofs.lemmas.Bool.Decides.{nat_tests}
use Rattle.std.proofs.lemmas.Nat.{mod-mul-add}
use Rattle.std.proofs.Math.Nat.{two-pow-succ}
use Rattle.cola_clock.specs.Clock.{elapsed, works, window_length, working_clocks, working_levels}
use Rattle.cola_clock.proofs.Laws.{adjacent-rest}

-- one clock more of a window from p up to twice p
one_more : (p n count : ℕ) → count ≡ min (n - p) p → count + cond (leb p n && ltb n (p + p)) 1 0 ≡ min (suc n - p) p
one_more p n count e = grind (arith, nat_tests)

-- at how many of the first n clocks of a period a level of 2 and more works
counted : (k i n : ℕ) → n ≤ 2 ^ suc (suc i) → working_clocks (k * 2 ^ suc (suc i)) (suc (suc i)) n ≡ min (n - 2 ^ i) (2 ^ i)
unfolding working_clocks works elapsed
counted k i zero h = omega arith
counted k i (suc n) h =
    let place : (k * 2 ^ suc (suc i) + n) % 2 ^ suc (suc i) ≡ n = mod-mul-add k (2 ^ suc (suc i)) n (omega arith) in
    rw (place, two-pow-succ i) (one_more (2 ^ i) n (working_clocks (k * 2 ^ suc (suc i)) (suc (suc i)) n) (counted k i n (omega arith)))

-- a level of 1 and more works at as many clocks of each period as its window has
pub window_length-counts : (k j : ℕ) → working_clocks (k * 2 ^ suc j) (suc j) (2 ^ suc j) ≡ window_length (suc j)
unfolding window_length working_clocks works
window_length-counts k zero =
    let even : (k * 2 + 0) % 2 ≡ 0 = mod-mul-add k 2 0 (omega arith) in
    let odd : (k * 2 + 1) % 2 ≡ 1 = mod-mul-add k 2 1 (omega arith) in
    rw (even, odd) refl
window_length-counts k (suc i) =
    counted k i (2 ^ suc (suc i)) (omega arith)
    ∙ (let e : 2 ^ suc i ≡ 2 ^ i + 2 ^ i = two-pow-succ i in
    let e2 : 2 ^ suc (suc i) ≡ 2 ^ suc i + 2 ^ suc i = two-pow-succ (suc i) in
    omega arith)

-- a mutation works at no more than every other level of 1 and more
pub working_levels-half : (t n : ℕ) → 2 * working_levels t n ≤ n + 1
unfolding working_levels
working_levels-half t zero = omega arith
working_levels-half t (suc zero) = elim (cases_Bool (works t 1)) [ inl e ↦ rw e (omega arith) | inr e ↦ rw e (omega arith) ]
working_levels-half t (suc (suc n)) =
    elim (cases_Bool (works t (suc n))) [
      | inl e ↦ rw (e, adjacent-rest t n e) (let before : 2 * working_levels t n ≤ n + 1 = working_levels-half t n in omega arith)
      | inr e ↦ rw e (let before : 2 * working_levels t n ≤ n + 1 = working_levels-half t n in
          elim (cases_Bool (works t (suc (suc n)))) [ inl f ↦ rw f (omega arith) | inr f ↦ rw f (omega arith) ])
    ]
