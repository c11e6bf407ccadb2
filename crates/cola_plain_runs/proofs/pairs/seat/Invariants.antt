use Rattle.std.proofs.Common.{◌≡◌, ◌++◌, take, drop}
use Rattle.std.specs.FinMap.{put}
use Rattle.cola_runs.specs.Cells.{Item}
use Rattle.cola_plain_runs.specs.Pairs.{as_entries}
use Rattle.cola_plain_runs.proofs.pairs.seat.Given as goal

-- the entries before stay in front
abbrev pub invariant-loop-i : goal.invariant-loop-i
invariant-loop-i g l = (i : Item g.row.V.Denot) → put g.K.Ord.cmp l.key i (as_entries l.entries) ≡ take l.i (as_entries l.entries) ++ put g.K.Ord.cmp l.key i (drop l.i (as_entries l.entries))
