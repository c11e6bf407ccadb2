use Rattle.std.proofs.Common.{◌≡◌}
use Rattle.cola_objects.proofs.runs.has_rows.Given as goal

abbrev pub invariant-loop-index : goal.invariant-loop-index
invariant-loop-index g l = (g.W.CellSource.state l.work).held ≡ (g.W.CellSource.state l.fn.work).held
