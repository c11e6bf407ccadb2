-- The account that bounds a chain's transfers: what each mutation pays in, and how far each level may be ahead of that.
use Rattle.std.specs.Prelude.{ℕ, zero, suc, ◌+◌, ◌-◌, ◌*◌, ◌/◌, ◌^◌, ◌≤◌, Bool, not, ◌&&◌, if◌then◌else◌}
use Rattle.cola_clock.specs.Clock.{elapsed, works, is_before}

-- how many mutations a level of 1 and more may be ahead of its share at clock t: after its window's begin as many as lie
-- before the end of the next period, before it as many as lie before the end of this one
unfoldable pub credit : ℕ → ℕ → ℕ
credit t j = (if is_before t j then 2 ^ j else 2 * 2 ^ j) - elapsed t j

-- the same of n levels together, from level i + 1 on
unfoldable pub credits : ℕ → ℕ → ℕ → ℕ
credits t i zero = 0
credits t i (suc n) = credit t (suc i) + credits t (suc i) n

-- whether a window of level j begins with the clock after t
unfoldable pub begins : ℕ → ℕ → Bool
begins t j = works (suc t) j && not (works t j)

-- these blocks, of `span` cells each, are paid for after so many mutations in a store with so many levels below level 0:
-- each mutation pays for `rate` cells at each level, and each level below level 0 has its credit besides
abbrev pub IsCovered : (rate span mutations t below blocks : ℕ) → Type 0
IsCovered rate span mutations t below blocks = span * blocks ≤ rate * (mutations * suc below + credits t 0 below)

-- how many parts of this size a number has, the last one begun
abbrev pub parts : ℕ → ℕ → ℕ
parts n size = (n + (size - 1)) / size

-- the cells of a file with so many levels below level 0
abbrev pub file_cells : ℕ → ℕ
file_cells below = 2 ^ (below + 4)

-- a number that stops at the last value of 64 bits: what comes to a count of this value
abbrev pub last_value : ℕ
last_value = 2 ^ 64 - 1
