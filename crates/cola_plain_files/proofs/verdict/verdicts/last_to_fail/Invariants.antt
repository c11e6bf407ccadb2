use Rattle.std.proofs.Common.{ℕ, ◌<◌, ◌≤◌, length}
use Rattle.cola_plain_files.specs.Levels.{as_levels}
use Rattle.cola_plain_files.specs.Tests.{PassesAt}
use Rattle.cola_plain_files.proofs.verdict.verdicts.last_to_fail.Given as goal

-- the levels from `left` on pass
abbrev pub invariant-loop-left : goal.invariant-loop-left
invariant-loop-left l = (l.left ≤ length l.levels) × ((i : ℕ) → l.left ≤ i → i < length l.levels → PassesAt l.test l.most l.clock (as_levels l.levels) i)

abbrev pub decreases-loop-left : goal.decreases-loop-left
decreases-loop-left l = l.left
