use Rattle.std.proofs.Common.{◌≤◌, ◌↔◌, drop}
use Rattle.cola_runs.specs.Cells.{IsLinked}
use Rattle.cola_plain_runs.specs.Runs.{as_run}
use Rattle.cola_plain_runs.proofs.cells.is_linked.Given as goal

-- what is left to look at decides, and no more lookahead cells were counted than cells
abbrev pub invariant-loop-cell : goal.invariant-loop-cell
invariant-loop-cell g l = (IsLinked 0 (as_run l.run) ↔ IsLinked l.looks (drop l.cell-index (as_run l.run))) × (l.looks ≤ l.cell-index)
