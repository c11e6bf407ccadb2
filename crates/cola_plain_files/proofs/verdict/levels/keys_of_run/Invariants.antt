use Rattle.std.proofs.Common.{drop}
use Rattle.cola_plain_runs.specs.Runs.{as_run}
use Rattle.cola_plain_files.specs.Levels.{HaveKeys}
use Rattle.cola_plain_files.proofs.verdict.levels.keys_of_run.Given as goal

-- the rest decides
abbrev pub invariant-loop-cell : goal.invariant-loop-cell
invariant-loop-cell l = HaveKeys (drop l.cell-index (as_run l.run)) → HaveKeys (as_run l.run)
