use Rattle.std.proofs.Common.{◌≡◌, ◌↔◌, drop}
use Rattle.cola_plain_runs.specs.Runs.{as_run}
use Rattle.cola_plain_files.proofs.verdict.cells.is_same_run.Given as goal

-- what is left to compare decides
abbrev pub invariant-loop-i : goal.invariant-loop-i
invariant-loop-i l = (as_run l.run ≡ as_run l.other) ↔ (drop l.i (as_run l.run) ≡ drop l.i (as_run l.other))
