-- How the credits of the levels go on at the next clock, and what they come to.
use Rattle.std.proofs.Common.{◌≡◌, ◌⊎◌, inl, inr, ℕ, zero, suc, ◌+◌, ◌-◌, ◌*◌, ◌%◌, ◌^◌, ◌<◌, ◌≤◌, true, not, ◌&&◌, cond, eqb, ltb, leb, refl, sym, ◌∙◌, subst, arith}
use Rattle.std.proofs.lemmas.Bool.{cases_Bool, false≢true, eqb-true}
use Rattle.std.proofs.lemmas.Bool.Decides.{nat_tests}
use Rattle.std.proofs.lemmas.Nat.{pow_pos}
use Rattle.std.proofs.Math.Nat.{two-pow-succ, add-zero}
use Rattle.cola_clock.specs.Clock.{elapsed, flips, works, is_before}
use Rattle.cola_clock.proofs.Laws.{elapsed_below, elapsed-room, elapsed-next_flip, elapsed-next_stay, flips-elapsed, before-not_works}
use Rattle.cola_clock.proofs.Places.{bit_cases}
use Rattle.cola_transfers.specs.Credit.{credit, credits, begins}

-- one clock further inside a period of q numbers, whose first quarter has p
inside_period : (e p q : ℕ) → q ≡ p + p + p + p → suc e < q →
    (cond (ltb (suc e) p) q (2 * q) - suc e) + 1
    ≡ (cond (ltb e p) q (2 * q) - e) + cond ((leb p (suc e) && ltb (suc e) (p + p)) && not (leb p e && ltb e (p + p))) q 0
inside_period e p q whole room = grind (arith, nat_tests)

-- from the last clock of a period to the first of the next
over_period : (e p q : ℕ) → q ≡ p + p + p + p → suc e ≡ q → 0 < p →
    (cond (ltb 0 p) q (2 * q) - 0) + 1
    ≡ (cond (ltb e p) q (2 * q) - e) + cond ((leb p 0 && ltb 0 (p + p)) && not (leb p e && ltb e (p + p))) q 0
over_period e p q whole last positive = grind (arith, nat_tests)

quarters : (k : ℕ) → 2 ^ suc (suc k) ≡ 2 ^ k + 2 ^ k + 2 ^ k + 2 ^ k
quarters k =
    let one : 2 ^ suc k ≡ 2 ^ k + 2 ^ k = two-pow-succ k in
    let two : 2 ^ suc (suc k) ≡ 2 ^ suc k + 2 ^ suc k = two-pow-succ (suc k) in
    omega arith

-- level 1, whose period has two mutations and whose window is the first of them
first_of_two : (t : ℕ) → (t % 2 ≡ 0) ⊎ (t % 2 ≡ 1) → (suc t % 2 ≡ 1 - t % 2) →
    (2 * 2 - suc t % 2) + 1 ≡ (2 * 2 - t % 2) + cond (eqb (suc t % 2) 0 && not (eqb (t % 2) 0)) 2 0
first_of_two t (inl e) next = rw (next, e) refl
first_of_two t (inr e) next = rw (next, e) refl

next_of_two : (t : ℕ) → suc t % 2 ≡ 1 - t % 2
next_of_two t = omega arith

-- the credit of a level falls by one with each mutation, and rises by a whole period where its window begins
pub credit-next : (t i : ℕ) → credit (suc t) (suc i) + 1 ≡ credit t (suc i) + cond (begins t (suc i)) (2 ^ suc i) 0
unfolding credit begins works is_before elapsed
credit-next t zero = first_of_two t (bit_cases t) (next_of_two t)
credit-next t (suc k) =
    elim (cases_Bool (flips t (suc (suc k)))) [
      | inl flip ↦
          let last : suc (t % 2 ^ suc (suc k)) ≡ 2 ^ suc (suc k) = eqb-true _ _ (sym (flips-elapsed t (suc (suc k))) ∙ flip) in
          rw (elapsed-next_flip t (suc (suc k)) flip, two-pow-succ k)
          (over_period (t % 2 ^ suc (suc k)) (2 ^ k) (2 ^ suc (suc k)) (quarters k) last (pow_pos k))
      | inr stay ↦
          rw (elapsed-next_stay t (suc (suc k)) stay, two-pow-succ k)
          (inside_period (t % 2 ^ suc (suc k)) (2 ^ k) (2 ^ suc (suc k)) (quarters k) (elapsed-room t (suc (suc k)) stay))
    ]

-- a level's credit is at most two periods of it
pub credit_below : (t j : ℕ) → credit t j ≤ 2 * 2 ^ j
unfolding credit
credit_below t j = elim (cases_Bool (is_before t j)) [ inl e ↦ rw e (omega arith) | inr e ↦ rw e (omega arith) ]

-- while a level works it has a whole period at least
pub credit-working : (t i : ℕ) → works t (suc i) ≡ true → 2 ^ suc i ≤ credit t (suc i)
unfolding credit
credit-working t i work =
    let below : elapsed t (suc i) < 2 ^ suc i = elapsed_below t (suc i) in
    elim (cases_Bool (is_before t (suc i))) [
      | inl early ↦ absurd (false≢true (sym (before-not_works t i early) ∙ work))
      | inr e ↦ rw e (omega arith)
    ]

-- all levels together
pub credits_below : (t i n : ℕ) → credits t i n + 4 * 2 ^ i ≤ 4 * 2 ^ (i + n)
unfolding credits
credits_below t i zero = rw (add-zero i) (omega arith)
credits_below t i (suc n) =
    let rest : credits t (suc i) n + 4 * 2 ^ suc i ≤ 4 * 2 ^ (suc i + n) = credits_below t (suc i) n in
    let head : credit t (suc i) ≤ 2 * 2 ^ suc i = credit_below t (suc i) in
    let twice : 2 ^ suc i ≡ 2 ^ i + 2 ^ i = two-pow-succ i in
    let same : i + suc n ≡ suc i + n = omega arith in
    rw same (omega arith)

pub credits-nil : (t i : ℕ) → credits t i 0 ≡ 0
unfolding credits
credits-nil t i = refl

pub credits-cons : (t i n : ℕ) → credits t i (suc n) ≡ credit t (suc i) + credits t (suc i) n
unfolding credits
credits-cons t i n = refl

-- the levels 1 to n together
pub credits_all : (t n : ℕ) → credits t 0 n + 4 ≤ 4 * 2 ^ n
credits_all t n =
    let all : credits t 0 n + 4 * 2 ^ 0 ≤ 4 * 2 ^ (0 + n) = credits_below t 0 n in
    let same : 0 + n ≡ n = omega arith in
    subst (λ (k : ℕ). credits t 0 n + 4 ≤ 4 * 2 ^ k) same all
