use Rattle.std.proofs.Common.{◌↔◌, drop}
use Rattle.cola_runs.specs.Cells.{IsRising}
use Rattle.cola_plain_runs.specs.Runs.{as_run}
use Rattle.cola_plain_runs.proofs.cells.is_rising.Given as goal

-- what is left to look at decides
abbrev pub invariant-loop-i : goal.invariant-loop-i
invariant-loop-i g l = IsRising g.K.Ord.cmp (as_run l.run) ↔ IsRising g.K.Ord.cmp (drop l.i (as_run l.run))
