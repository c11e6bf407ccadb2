use Rattle.std.proofs.Common.{◌≡◌, ◌++◌, take, drop}
use Rattle.cola_runs.specs.Weave.{set_cell}
use Rattle.cola_plain_runs.specs.Runs.{as_cell, as_run}
use Rattle.cola_plain_runs.proofs.weave.seat.Given as goal

-- the cells before stay in front
abbrev pub invariant-loop-i : goal.invariant-loop-i
invariant-loop-i g l = set_cell g.K.Ord.cmp (as_cell l.cell) (as_run l.cells) ≡ take l.i (as_run l.cells) ++ set_cell g.K.Ord.cmp (as_cell l.cell) (drop l.i (as_run l.cells))
