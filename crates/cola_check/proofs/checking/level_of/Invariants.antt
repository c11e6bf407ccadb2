-- The number is not below the slots of the level.
use Rattle.std.proofs.Common.{ℕ, ◌≤◌, ◌<◌, ◌+◌, ◌-◌, ◌^◌}
use Rattle.cola_check.proofs.checking.level_of.Given as goal

pub record Reached (number level : ℕ) : Type 0 where
  pub level_in : level ≤ 22
  pub reached : 0 < level → 2 ^ (level + 3) ≤ number

abbrev pub invariant-loop-level : goal.invariant-loop-level
invariant-loop-level c = Reached c.number c.level

abbrev pub decreases-loop-level : goal.decreases-loop-level
decreases-loop-level c = 22 - c.level
