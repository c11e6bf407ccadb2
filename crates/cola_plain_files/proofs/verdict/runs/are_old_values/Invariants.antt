use Rattle.std.proofs.Common.{◌↔◌, drop}
use Rattle.std.specs.List.{AllByRecursion}
use Rattle.cola_runs.specs.Cells.{IsOldValue}
use Rattle.cola_plain_runs.specs.Runs.{as_run}
use Rattle.cola_plain_files.proofs.verdict.runs.are_old_values.Given as goal

-- what is left to look at decides
abbrev pub invariant-loop-cell : goal.invariant-loop-cell
invariant-loop-cell l = AllByRecursion IsOldValue (as_run l.run) ↔ AllByRecursion IsOldValue (drop l.cell-index (as_run l.run))
