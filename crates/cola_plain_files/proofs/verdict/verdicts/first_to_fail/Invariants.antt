use Rattle.std.proofs.Common.{ℕ, ◌<◌}
use Rattle.cola_plain_files.specs.Levels.{as_levels}
use Rattle.cola_plain_files.specs.Tests.{PassesAt}
use Rattle.cola_plain_files.proofs.verdict.verdicts.first_to_fail.Given as goal

-- the levels so far pass
abbrev pub invariant-loop-number : goal.invariant-loop-number
invariant-loop-number l = (i : ℕ) → i < l.number → PassesAt l.test l.most l.clock (as_levels l.levels) i
