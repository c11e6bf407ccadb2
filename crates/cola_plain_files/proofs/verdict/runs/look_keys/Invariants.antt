use Rattle.std.proofs.Common.{◌≡◌, ◌++◌, drop}
use Rattle.cola_runs.specs.Cells.{look_keys}
use Rattle.cola_plain_runs.specs.Runs.{as_run}
use Rattle.cola_plain_files.proofs.verdict.runs.look_keys.Given as goal

-- the keys so far, and those of the rest
abbrev pub invariant-loop-cell : goal.invariant-loop-cell
invariant-loop-cell l = l.keys.items ++ look_keys (drop l.cell-index (as_run l.run)) ≡ look_keys (as_run l.run)
