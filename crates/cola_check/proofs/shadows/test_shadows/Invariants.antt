use Rattle.std.proofs.Common.{◌+◌, ◌≤◌}
use Rattle.cola_check.proofs.Common.{Costs, tested_by, Looked}
use Rattle.cola_check.proofs.FileBlocks.{shadows_to}
use Rattle.cola_check.proofs.ShadowTests.{PassBehind, ticks_behind}
use Rattle.cola_check.proofs.shadows.test_shadows.Given as goal

abbrev pub invariant-loop-level : goal.invariant-loop-level
invariant-loop-level g l = record {
  looks : Looked g.W.CellSource l.fn.work l.work;
  cost : Costs (g.W.CellSource.state l.fn.work).spent (g.W.CellSource.state l.work).spent l.fn.steps l.steps (ticks_behind l.header.geometry.bottom l.level) (ticks_behind l.header.geometry.bottom l.level);
  blocks : (g.W.CellSource.state l.work).spent.turned + shadows_to l.header (g.W.CellSource.state l.fn.work).held l.level ≤ (g.W.CellSource.state l.fn.work).spent.turned + shadows_to l.header (g.W.CellSource.state l.fn.work).held l.header.geometry.bottom;
  low : l.level ≤ l.header.geometry.bottom;
  behind : PassBehind (tested_by l.header (g.W.CellSource.state l.fn.work).held) l.level;
}

abbrev pub decreases-loop-level : goal.decreases-loop-level
decreases-loop-level g l = l.level
