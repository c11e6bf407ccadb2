-- Powers of two, doubled one after another.
use Rattle.std.proofs.Common.{ℕ, ◌≡◌, ◌≤◌, ◌<◌, ◌+◌, ◌-◌, ◌*◌, ◌^◌, min, sym, ◌∙◌, ap, subst, arith, inl, inr, add-one}
use Rattle.std.proofs.lemmas.Bool.{cases_lt}
use Rattle.std.proofs.Math.Pow.{pow_mono}
use Rattle.std.proofs.Math.Nat.{pow-suc}
use Rattle.cola_spec.specs.Bounds.{ceiling_log}
use Rattle.cola_spec.proofs.BoundLaws.{ceiling_log_fits, ceiling_log_is_least}

pub next_power : (power : ℕ) → 2 ^ (power + 1) ≡ 2 ^ power * 2
next_power power = rw add-one (pow-suc 2 power)

never_both : (a b : ℕ) → a < b → b ≤ a → ⊥
never_both a b below above = absurd (omega arith)

not_apart : (a b : ℕ) → a ≤ b → b ≤ a → b ≡ a
not_apart a b below above = omega arith

-- the number's power is the one that is not below it, where all before are
pub least_power : (number power : ℕ) → number ≤ 2 ^ power → ((before : ℕ) → before < power → 2 ^ before < number) → power ≡ ceiling_log number
least_power number power fits above =
    elim (cases_lt (ceiling_log number) power) [
      | inl below ↦ absurd (never_both (2 ^ ceiling_log number) number (above (ceiling_log number) below) (ceiling_log_fits number))
      | inr reached ↦ not_apart (ceiling_log number) power (ceiling_log_is_least number power fits) reached
    ]

-- what is below a power in 64 bits
abbrev pub in_word : ℕ → ℕ
in_word number = min number (2 ^ 64 - 1)

doubled_plain : (x reached : ℕ) → reached ≡ in_word x → in_word (reached * 2) ≡ in_word (x * 2)
doubled_plain x reached is = omega arith

pub doubled : (power reached : ℕ) → reached ≡ in_word (2 ^ power) → in_word (reached * 2) ≡ in_word (2 ^ (power + 1))
doubled power reached is = doubled_plain (2 ^ power) reached is ∙ ap in_word (sym (next_power power))

reached_plain : (x reached number : ℕ) → reached ≡ in_word x → number ≤ reached → number ≤ x
reached_plain x reached number is fits = omega arith

pub reached_fits : (power reached number : ℕ) → reached ≡ in_word (2 ^ power) → number ≤ reached → number ≤ 2 ^ power
reached_fits power reached number is fits = reached_plain (2 ^ power) reached number is fits

passed_plain : (x reached number : ℕ) → reached ≡ in_word x → number ≤ 2 ^ 64 - 1 → reached < number → x < number
passed_plain x reached number is small above = omega arith

-- all powers before the next are below the number
pub one_more_below : (power reached number : ℕ) → reached ≡ in_word (2 ^ power) → number ≤ 2 ^ 64 - 1 → reached < number → ((before : ℕ) → before < power → 2 ^ before < number) → (before : ℕ) → before < power + 1 → 2 ^ before < number
one_more_below power reached number is small above below before within =
    elim (cases_lt before power) [
      | inl early ↦ below before early
      | inr late ↦ let same : power ≡ before = omega arith in subst (λ p. 2 ^ p < number) same (passed_plain (2 ^ power) reached number is small above)
    ]

pub none_before : (number before : ℕ) → before < 0 → 2 ^ before < number
none_before number before never = absurd (omega arith)

-- a power of two in 64 bits
pub power_fits : (power : ℕ) → power ≤ 63 → 2 ^ power ≤ 2 ^ 63
power_fits power small = pow_mono small

doubled_fits_plain : (x reached : ℕ) → reached ≡ x → x ≤ 2 ^ 62 → reached * 2 < 2 ^ 64
doubled_fits_plain x reached is small = omega arith

pub doubled_fits : (power reached : ℕ) → reached ≡ 2 ^ power → power < 63 → reached * 2 < 2 ^ 64
doubled_fits power reached is small = let low : power ≤ 62 = omega arith in doubled_fits_plain (2 ^ power) reached is (pow_mono low)
