use Rattle.std.proofs.Common.{◌≡◌, ◌++◌, drop, map}
use Rattle.cola_runs.specs.Weave.{look_at}
use Rattle.cola_plain_runs.specs.Runs.{as_run}
use Rattle.cola_plain_runs.proofs.weave.lookahead_cells.Given as goal

-- what was made, and what the rest gives
abbrev pub invariant-loop-key : goal.invariant-loop-key
invariant-loop-key g l = as_run l.cells.items ++ map look_at (drop l.key-index l.keys) ≡ map look_at l.keys
