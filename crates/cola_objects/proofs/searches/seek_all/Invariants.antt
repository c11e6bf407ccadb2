use Rattle.std.proofs.Common.{◌≡◌}
use Rattle.cola_objects.proofs.searches.seek_all.Given as goal

abbrev pub invariant-loop-search : goal.invariant-loop-search
invariant-loop-search g l = (g.W.CellSource.state l.work).held.fixed ≡ (g.W.CellSource.state l.fn.work).held.fixed
