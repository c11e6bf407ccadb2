use Rattle.std.proofs.Common.{◌≡◌}
use Rattle.cola_cursor.specs.Standing.{Stands}
use Rattle.cola_objects.proofs.searches.gives.Given as goal

abbrev pub invariant-loop-pair : goal.invariant-loop-pair
invariant-loop-pair g l = ((g.W.CellSource.state l.work).held ≡ (g.W.CellSource.state l.fn.work).held) × Stands (g.W.CellSource.state l.work).held l.cursor
