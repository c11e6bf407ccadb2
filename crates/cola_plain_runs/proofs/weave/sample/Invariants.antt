use Rattle.std.proofs.Common.{◌≡◌, ◌-◌, ◌%◌, ◌++◌, drop}
use Rattle.cola_runs.specs.Cells.{every_eighth, sample}
use Rattle.cola_plain_runs.specs.Runs.{as_run}
use Rattle.cola_plain_runs.proofs.weave.sample.Given as goal

-- the keys so far, and those of the rest
abbrev pub invariant-loop-i : goal.invariant-loop-i
invariant-loop-i g l = l.keys.items ++ every_eighth (7 - l.i % 8) (drop l.i (as_run l.run)) ≡ sample (as_run l.run)
