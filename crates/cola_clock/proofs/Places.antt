-- A number t by its place in a period of p numbers: the quotient q and the remainder r, and how both go on at t + 1.
use Rattle.std.proofs.Common.{◌≡◌, ◌⊎◌, inl, inr, ℕ, suc, ◌+◌, ◌-◌, ◌*◌, ◌/◌, ◌%◌, ◌^◌, ◌<◌, Bool, true, false, not, ◌&&◌, eqb, ltb, leb, refl, sym, ◌∙◌, arith}
use Rattle.std.proofs.lemmas.Bool.{eq-eqb, ne_eqb, le-leb, lt-leb, lt-ltb, le-ltb, cases_eq, and_left, and_right}
use Rattle.std.proofs.lemmas.Bool.Decides.{nat_tests}
use Rattle.std.proofs.lemmas.Nat.{div-mul-add, mod-mul-add, div-add-mod', mod_below, mod-pow-add}
use Rattle.std.proofs.Math.Numerals.{add-one, one-add}

-- inside a period the remainder goes up by one and the quotient stays
pub step_inside : (t q p r : ℕ) → t ≡ q * p + r → suc r < p → (suc t % p ≡ suc r) × (suc t / p ≡ q)
step_inside t q p r e h =
    let s : suc t ≡ q * p + suc r = omega arith in
    (rw s (mod-mul-add q p (suc r) h), rw s (div-mul-add q p (suc r) h))

-- at the end of a period the remainder is 0 again and the quotient goes up by one
pub step_over : (t q p r : ℕ) → t ≡ q * p + r → suc r ≡ p → (suc t % p ≡ 0) × (suc t / p ≡ suc q)
step_over t q p r e h =
    let s : suc t ≡ suc q * p + 0 = omega arith in
    let positive : 0 < p = omega arith in
    (rw s (mod-mul-add (suc q) p 0 positive), rw s (div-mul-add (suc q) p 0 positive))

-- a number by its quotient and remainder
pub placed : (t p : ℕ) → t ≡ t / p * p + t % p
placed t p = sym (div-add-mod' t p)

-- p divides t + 1 exactly at the end of a period
pub divides-next : (t q p r : ℕ) → t ≡ q * p + r → r < p → eqb ((t + 1) % p) 0 ≡ eqb (suc r) p
divides-next t q p r e h =
    elim (cases_eq (suc r) p) [
      | inl last ↦ rw (add-one, (step_over t q p r e last).0, eq-eqb (suc r) p last) refl
      | inr before ↦
          let inside : suc r < p = omega arith in
          rw (add-one, (step_inside t q p r e inside).0, ne_eqb (suc r) p before) (ne_eqb (suc r) 0 (λ e. cc))
    ]

-- the remainder of twice the period: the last bit of the quotient, and the remainder
pub twice : (t j : ℕ) → t % 2 ^ suc j ≡ (t / 2 ^ j % 2) * 2 ^ j + t % 2 ^ j
twice t j = rw (← one-add j) (mod-pow-add t 1 j)

-- a bit is at most one
pub bit_cases : (n : ℕ) → (n % 2 ≡ 0) ⊎ (n % 2 ≡ 1)
bit_cases n = elim (cases_eq (n % 2) 0) [ inl e ↦ inl e | inr h ↦ inr (let b : n % 2 < 2 = mod_below n 2 (omega arith) in omega arith) ]

-- a number below a period p, by its halves: b says which half, r where in it
pub upper_half : (b p r : ℕ) → (b ≡ 0) ⊎ (b ≡ 1) → r < p → leb p (b * p + r) ≡ eqb b 1
upper_half b p r bit h =
    elim bit [
      | inl e ↦ rw e (lt-leb p (0 * p + r) (omega arith))
      | inr e ↦ rw e (le-leb p (1 * p + r) (omega arith))
    ]

-- the same by its quarters: c says which half of the period, b which half of that
pub second_quarter : (b c p q r : ℕ) → (b ≡ 0) ⊎ (b ≡ 1) → (c ≡ 0) ⊎ (c ≡ 1) → r < p → q ≡ p + p →
    (leb p (c * q + (b * p + r)) && ltb (c * q + (b * p + r)) q) ≡ (eqb b 1 && not (eqb c 1))
second_quarter b c p q r bit upper h e =
    elim bit [
      | inl b_is ↦ elim upper [
        | inl c_is ↦ rw (b_is, c_is, lt-leb p (0 * q + (0 * p + r)) (omega arith)) refl
        | inr c_is ↦ rw (b_is, c_is, le-ltb (1 * q + (0 * p + r)) q (omega arith), le-leb p (1 * q + (0 * p + r)) (omega arith)) refl
      ]
      | inr b_is ↦ elim upper [
        | inl c_is ↦ rw (b_is, c_is, le-leb p (0 * q + (1 * p + r)) (omega arith), lt-ltb (0 * q + (1 * p + r)) q (omega arith)) refl
        | inr c_is ↦ rw (b_is, c_is, le-ltb (1 * q + (1 * p + r)) q (omega arith), le-leb p (1 * q + (1 * p + r)) (omega arith)) refl
      ]
    ]

pub first_quarter : (b c p q r : ℕ) → (b ≡ 0) ⊎ (b ≡ 1) → (c ≡ 0) ⊎ (c ≡ 1) → r < p → q ≡ p + p →
    ltb (c * q + (b * p + r)) p ≡ (not (eqb b 1) && not (eqb c 1))
first_quarter b c p q r bit upper h e =
    elim bit [
      | inl b_is ↦ elim upper [
        | inl c_is ↦ rw (b_is, c_is, lt-ltb (0 * q + (0 * p + r)) p (omega arith)) refl
        | inr c_is ↦ rw (b_is, c_is, le-ltb (1 * q + (0 * p + r)) p (omega arith)) refl
      ]
      | inr b_is ↦ elim upper [
        | inl c_is ↦ rw (b_is, c_is, le-ltb (0 * q + (1 * p + r)) p (omega arith)) refl
        | inr c_is ↦ rw (b_is, c_is, le-ltb (1 * q + (1 * p + r)) p (omega arith)) refl
      ]
    ]

-- the last number of a period, by its halves
pub last_by_halves : (b p q r : ℕ) → (b ≡ 0) ⊎ (b ≡ 1) → r < p → q ≡ p + p →
    eqb (suc (b * p + r)) q ≡ (eqb (suc r) p && eqb b 1)
last_by_halves b p q r bit h e =
    elim bit [
      | inl b_is ↦ rw (b_is, ne_eqb (suc (0 * p + r)) q (λ g. omega arith)) (sym (and_right (eqb (suc r) p) false refl))
      | inr b_is ↦ grind (arith, nat_tests, b_is)
    ]

pub and_true_right : (b : Bool) → (b && true) ≡ b
and_true_right true = refl
and_true_right false = refl

-- the last number of the second quarter of a period
pub window_end : (b c p q r : ℕ) → (b ≡ 0) ⊎ (b ≡ 1) → (c ≡ 0) ⊎ (c ≡ 1) → r < p → q ≡ p + p →
    ((eqb b 1 && not (eqb c 1)) && eqb (suc (c * q + (b * p + r) - p)) p) ≡ ((eqb (suc r) p && eqb b 1) && not (eqb c 1))
window_end b c p q r bit upper h e =
    elim bit [
      | inl b_is ↦ rw b_is (sym (and_left (eqb (suc r) p && false) (not (eqb c 1)) (and_right (eqb (suc r) p) false refl)))
      | inr b_is ↦ elim upper [
        | inl c_is ↦ let same : 0 * q + (1 * p + r) - p ≡ r = omega arith in
            rw (b_is, c_is, same) (sym (and_true_right (eqb (suc r) p && true) ∙ and_true_right (eqb (suc r) p)))
        | inr c_is ↦ rw (b_is, c_is) (sym (and_right (eqb (suc r) p && true) false refl))
      ]
    ]

pub and_not : (a b : Bool) → (a && not b) ≡ (a && not (a && b))
and_not true b = refl
and_not false b = refl
