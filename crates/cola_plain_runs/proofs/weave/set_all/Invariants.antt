use Rattle.std.proofs.Common.{◌≡◌, ◌≤◌, length, drop}
use Rattle.cola_runs.specs.Weave.{set_cells}
use Rattle.cola_plain_runs.specs.Runs.{as_run}
use Rattle.cola_plain_runs.proofs.weave.set_all.Given as goal

-- the cells from `left` on are set
abbrev pub invariant-loop-left : goal.invariant-loop-left
invariant-loop-left g l = (as_run l.cells.items ≡ set_cells g.K.Ord.cmp (drop l.left (as_run l.more)) (as_run l.fn.cells.items)) × (l.left ≤ length l.more)

abbrev pub decreases-loop-left : goal.decreases-loop-left
decreases-loop-left g l = l.left
