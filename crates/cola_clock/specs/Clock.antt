-- The clock of a lookahead array: which levels flip, which work, and whose window is over, at a clock t.
-- Everything here is plain arithmetic on natural numbers, so that a proof may take any clock and any level.
use Rattle.std.specs.Prelude.{◌≡◌, ℕ, zero, suc, ◌+◌, ◌-◌, ◌/◌, ◌%◌, ◌^◌, Bool, true, false, ◌==◌, ◌&&◌, nat_lt, nat_le, if◌then◌else◌}

-- how many whole periods of level j, of 2^j mutations each, lie before clock t
unfoldable pub period : ℕ → ℕ → ℕ
period t j = t / 2 ^ j

-- how many mutations of level j's current period lie before clock t
unfoldable pub elapsed : ℕ → ℕ → ℕ
elapsed t j = t % 2 ^ j

-- whether a number is odd
unfoldable pub is_odd : ℕ → Bool
is_odd n = n % 2 == 1

-- whether level j flips when the clock moves on from t: where 2^j divides t + 1
unfoldable pub flips : ℕ → ℕ → Bool
flips t j = (t + 1) % 2 ^ j == 0

-- whether the mutation at clock t works at level j: level 0 always, level 1 at even clocks, and a level j of 2
-- and more in the second quarter of its period, from 2^(j-2) up to 2^(j-1) mutations after its begin
unfoldable pub works : ℕ → ℕ → Bool
works t zero = true
works t (suc zero) = t % 2 == 0
works t (suc (suc i)) = nat_le (2 ^ i) (elapsed t (suc (suc i))) && nat_lt (elapsed t (suc (suc i))) (2 ^ suc i)

-- whether the window of level j is still to come in this period: in the first quarter of the period of a level of 2
-- and more
unfoldable pub is_before : ℕ → ℕ → Bool
is_before t zero = false
is_before t (suc zero) = false
is_before t (suc (suc i)) = nat_lt (elapsed t (suc (suc i))) (2 ^ i)

-- whether the window of level j is over in this period: in the second half of the period of a level of 1 and more.
-- The run of level 0 is built whole by each mutation, so it has no window that could be over
unfoldable pub is_over : ℕ → ℕ → Bool
is_over t zero = false
is_over t (suc i) = nat_le (2 ^ i) (elapsed t (suc i))

-- how many mutations of level j's window are accepted where the level works at clock t
unfoldable pub window_step : ℕ → ℕ → ℕ
window_step t zero = 0
window_step t (suc zero) = 0
window_step t (suc (suc i)) = elapsed t (suc (suc i)) - 2 ^ i

-- how many mutations the window of level j has, for a level of 1 and more
unfoldable pub window_length : ℕ → ℕ
window_length zero = 0
window_length (suc zero) = 1
window_length (suc (suc i)) = 2 ^ i

-- which of its two slots the visible run of level j stands in at clock t: 0 in an even period, 1 in an odd one.
-- Its shadow run stands in the other
unfoldable pub visible_slot : ℕ → ℕ → ℕ
visible_slot t j = period t j % 2

-- whether the window of level j ends with the mutation at clock t: the level works there, for the last time in its
-- period
unfoldable pub ends : ℕ → ℕ → Bool
ends t j = works t j && suc (window_step t j) == window_length j

-- at how many of the n clocks from t on level j works
unfoldable pub working_clocks : ℕ → ℕ → ℕ → ℕ
working_clocks t j zero = 0
working_clocks t j (suc n) = working_clocks t j n + (if works (t + n) j then 1 else 0)

-- at how many of the levels 1 to n the mutation at clock t works
unfoldable pub working_levels : ℕ → ℕ → ℕ
working_levels t zero = 0
working_levels t (suc n) = working_levels t n + (if works t (suc n) then 1 else 0)

-- level j cannot tell the clocks t and u apart: its place, its tests and the parity of its period are the same at both
pub record SameSchedule (t u j : ℕ) : Type 0 where
  pub place : elapsed t j ≡ elapsed u j
  pub parity : is_odd (period t j) ≡ is_odd (period u j)
  pub slot : visible_slot t j ≡ visible_slot u j
  pub flip : flips t j ≡ flips u j
  pub work : works t j ≡ works u j
  pub before : is_before t j ≡ is_before u j
  pub over : is_over t j ≡ is_over u j
  pub step : window_step t j ≡ window_step u j
  pub end : ends t j ≡ ends u j

-- two clocks lie in one window of level j
pub record InOneWindow (t u j : ℕ) : Type 0 where
  pub works_first : works t j ≡ true
  pub works_second : works u j ≡ true
  pub same_period : period t j ≡ period u j

-- at both clocks level j + 1 and the levels beside it stand in the same periods, so none of them flips in between and
-- each has the same visible run; and where the run below is sampled from its shadow, that shadow is finished at both
pub record SourcesStay (t u j : ℕ) : Type 0 where
  pub incoming : period t j ≡ period u j
  pub own : period t (suc j) ≡ period u (suc j)
  pub sampled : period t (suc (suc j)) ≡ period u (suc (suc j))
  pub finished_first : is_odd (period t (suc j)) ≡ true → is_over t (suc (suc j)) ≡ true
  pub finished_second : is_odd (period u (suc j)) ≡ true → is_over u (suc (suc j)) ≡ true
