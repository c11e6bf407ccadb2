use Rattle.std.proofs.Common.{◌≡◌}
use Rattle.cola_objects.proofs.searches.finds_all.Given as goal

abbrev pub invariant-loop-number : goal.invariant-loop-number
invariant-loop-number g l = (g.W.CellSource.state l.work).held ≡ (g.W.CellSource.state l.fn.work).held
