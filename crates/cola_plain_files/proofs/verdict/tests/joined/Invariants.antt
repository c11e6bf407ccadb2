use Rattle.std.proofs.Common.{◌≡◌, ◌+◌, ◌≤◌, ◌++◌, length, drop}
use Rattle.cola_runs.specs.Cells.{count_looks}
use Rattle.cola_plain_runs.specs.Runs.{as_run}
use Rattle.cola_runs.specs.Weave.{relinked}
use Rattle.cola_plain_files.proofs.verdict.tests.joined.Given as goal

-- what was joined, and what the rest gives; no more lookahead cells were counted than cells
abbrev pub invariant-loop-cell : goal.invariant-loop-cell
invariant-loop-cell l =
    (as_run l.run.items ++ relinked l.looks (drop l.cell-index (as_run l.rest)) ≡ as_run l.done ++ relinked (count_looks (as_run l.done)) (as_run l.rest))
    × (l.looks ≤ length l.done + l.cell-index)
