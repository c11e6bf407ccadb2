use Rattle.std.proofs.Common.{◌≡◌, ◌+◌, ◌≤◌, drop}
use Rattle.cola_runs.specs.Cells.{count_looks}
use Rattle.cola_plain_runs.specs.Runs.{as_run}
use Rattle.cola_plain_files.proofs.verdict.runs.count_looks.Given as goal

-- those so far, and those of the rest
abbrev pub invariant-loop-cell : goal.invariant-loop-cell
invariant-loop-cell l = (l.looks + count_looks (drop l.cell-index (as_run l.run)) ≡ count_looks (as_run l.run)) × (l.looks ≤ l.cell-index)
