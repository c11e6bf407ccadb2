use Rattle.std.proofs.Common.{◌≡◌}
use Rattle.cola_objects.proofs.runs.push_rows.Given as goal

abbrev pub invariant-loop-row : goal.invariant-loop-row
invariant-loop-row g l = ((g.W.CellSource.state l.work).held.fixed ≡ (g.W.CellSource.state l.fn.work).held.fixed) × (l.slot ≡ ((g.W.CellSource.state l.work).held.shadows l.level).slot)
