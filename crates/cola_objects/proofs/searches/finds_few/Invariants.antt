use Rattle.std.proofs.Common.{◌≡◌}
use Rattle.cola_objects.proofs.searches.finds_few.Given as goal

abbrev pub invariant-loop-row : goal.invariant-loop-row
invariant-loop-row g l = (g.W.CellSource.state l.work).held ≡ (g.W.CellSource.state l.fn.work).held
