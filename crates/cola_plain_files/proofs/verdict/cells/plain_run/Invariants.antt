use Rattle.std.proofs.Common.{◌≡◌, ◌++◌, drop}
use Rattle.cola_plain_runs.specs.Runs.{as_run}
use Rattle.cola_plain_files.specs.Levels.{found_cells}
use Rattle.cola_plain_files.proofs.verdict.cells.plain_run.Given as goal

-- the cells so far, and those of the rest
abbrev pub invariant-loop-place : goal.invariant-loop-place
invariant-loop-place l = as_run l.run.items ++ found_cells (drop l.place-index l.found) ≡ found_cells l.found
