use Rattle.std.proofs.Common.{◌≡◌, ◌+◌, ◌≤◌, drop}
use Rattle.cola_runs.specs.Cells.{count_items}
use Rattle.cola_plain_runs.specs.Runs.{as_run}
use Rattle.cola_plain_files.proofs.verdict.runs.count_items.Given as goal

-- those so far, and those of the rest
abbrev pub invariant-loop-cell : goal.invariant-loop-cell
invariant-loop-cell l = (l.items + count_items (drop l.cell-index (as_run l.run)) ≡ count_items (as_run l.run)) × (l.items ≤ l.cell-index)
