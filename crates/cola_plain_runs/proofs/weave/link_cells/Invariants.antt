use Rattle.std.proofs.Common.{◌≡◌, ◌≤◌, ◌++◌, drop}
use Rattle.cola_runs.specs.Weave.{relinked}
use Rattle.cola_plain_runs.specs.Runs.{as_run}
use Rattle.cola_plain_runs.proofs.weave.link_cells.Given as goal

-- what was linked, and what the rest gives; no more lookahead cells were counted than cells
abbrev pub invariant-loop-cell : goal.invariant-loop-cell
invariant-loop-cell g l = (as_run l.linked.items ++ relinked l.looks (drop l.cell-index (as_run l.cells)) ≡ relinked 0 (as_run l.cells)) × (l.looks ≤ l.cell-index)
