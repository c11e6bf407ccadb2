-- The laws of the bounds.
use Rattle.std.proofs.Common.{ℕ, ◌≡◌, ◌≤◌, ◌<◌, ◌+◌, ◌-◌, ◌^◌, subst, arith, inl, inr, lit<}
use Rattle.std.proofs.lemmas.Bool.{cases_lt}
use Rattle.std.proofs.Math.Pow.{pow-sub-lt}
use Rattle.std.proofs.lemmas.Nat.{pow_below}
use Rattle.std.proofs.lemmas.Int.Digits.{number_lt, number_digits_of, all_below_base_digits_of, length-digits_of-le}
use Rattle.std.specs.Int.Digits.{digits_of}
use Rattle.cola_spec.specs.Bounds.{ceiling_log, levels_of}

above_before : (n m : ℕ) → n - 1 < m → n ≤ m
above_before n m h = omega arith

-- the power is not below the number
pub ceiling_log_fits : (number : ℕ) → number ≤ 2 ^ ceiling_log number
ceiling_log_fits number =
    above_before number (2 ^ ceiling_log number)
    (subst (λ n. n < 2 ^ ceiling_log number) (number_digits_of 2 (number - 1) (omega arith)) (number_lt 2 (digits_of 2 (number - 1)) (all_below_base_digits_of 2 (number - 1) (omega arith))))

power_above_zero : (power : ℕ) → 0 < 2 ^ power
power_above_zero power = omega (arith, pow-sub-lt power {a = 1} (lit< tt))

before_below : (n m : ℕ) → 0 < m → n ≤ m → n - 1 < m
before_below n m some h = omega arith

-- and it is the least one
pub ceiling_log_is_least : (number power : ℕ) → number ≤ 2 ^ power → ceiling_log number ≤ power
ceiling_log_is_least number power h = length-digits_of-le 2 power (number - 1) (omega arith) (before_below number (2 ^ power) (power_above_zero power) h)

power_rises : (low high : ℕ) → low ≤ high → 2 ^ low ≤ 2 ^ high
power_rises low high h =
    elim (cases_lt low high) [
      | inl below ↦ omega (arith, pow_below low high below)
      | inr above ↦ let same : low ≡ high = omega arith in subst (λ power. 2 ^ low ≤ 2 ^ power) same (omega arith)
    ]

-- a store has four levels at least
pub levels_at_least : (keys : ℕ) → 4 ≤ levels_of keys
levels_at_least keys = omega arith

-- the last level has room for all keys
pub levels_hold : (keys : ℕ) → keys ≤ 2 ^ (levels_of keys + 1)
levels_hold keys =
    let fits = ceiling_log_fits keys in
    let more = power_rises (ceiling_log keys) (levels_of keys + 1) (omega arith) in
    omega (arith, fits, more)

-- and no fewer levels, but four, have
pub levels_are_least : (keys : ℕ) → 4 < levels_of keys → 2 ^ levels_of keys < keys
levels_are_least keys more =
    elim (cases_lt (2 ^ levels_of keys) keys) [
      | inl below ↦ below
      | inr fits ↦ let least = ceiling_log_is_least keys (levels_of keys) fits in absurd (omega arith)
    ]
