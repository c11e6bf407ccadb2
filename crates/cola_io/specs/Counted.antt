-- Counts of faults, exact.
use Rattle.std.specs.Prelude.{ℕ, ◌≡◌, ◌+◌, ◌-◌, ◌^◌, min, Result, MatchResult}

-- the count after one more fault: one more, up to the last value of u64
abbrev pub after_fault : ℕ → ℕ
after_fault count = min (count + 1) (2 ^ 64 - 1)

-- a call that succeeds leaves the count of faults, and a refused one raises it by one
abbrev pub CountsFaults : {T E : Type 0} → Result T E → ℕ → ℕ → Type 0
CountsFaults result before now = MatchResult result (λ _. now ≡ before) (λ _. now ≡ after_fault before)
