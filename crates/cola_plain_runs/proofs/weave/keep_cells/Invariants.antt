use Rattle.std.proofs.Common.{◌≡◌, ◌++◌, drop}
use Rattle.std.specs.List.{filter}
use Rattle.cola_runs.specs.Weave.{stays}
use Rattle.cola_plain_runs.specs.Runs.{as_run, as_part}
use Rattle.cola_plain_runs.proofs.weave.keep_cells.Given as goal

-- what was kept, and what the rest gives
abbrev pub invariant-loop-cell : goal.invariant-loop-cell
invariant-loop-cell g l = as_run l.kept.items ++ filter (stays (as_part l.part)) (drop l.cell-index (as_run l.cells)) ≡ filter (stays (as_part l.part)) (as_run l.cells)
