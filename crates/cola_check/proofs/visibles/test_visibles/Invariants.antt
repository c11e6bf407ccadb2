use Rattle.std.proofs.Common.{◌+◌, ◌*◌, ◌^◌, ◌≤◌}
use Rattle.cola_check.proofs.Common.{Costs, AreCellsTold, blocks_above, ArePlaced, AreFirstFlaws, tested_by, Looked}
use Rattle.cola_check.proofs.FileBlocks.{belows}
use Rattle.cola_check.proofs.visibles.test_visibles.Given as goal

abbrev pub invariant-loop-level : goal.invariant-loop-level
invariant-loop-level g l = record {
  looks : Looked g.W.CellSource l.fn.work l.work;
  cost : Costs (g.W.CellSource.state l.fn.work).spent (g.W.CellSource.state l.work).spent l.fn.steps l.steps (5 * 2 ^ l.level) (5 * 2 ^ l.level);
  blocks : (g.W.CellSource.state l.work).spent.turned ≤ (g.W.CellSource.state l.fn.work).spent.turned + (blocks_above l.header (g.W.CellSource.state l.fn.work).held l.level + belows l.header (g.W.CellSource.state l.fn.work).held l.level);
  placed : ArePlaced l.level l.flaws;
  found : AreCellsTold (tested_by l.header (g.W.CellSource.state l.fn.work).held) → AreFirstFlaws (tested_by l.header (g.W.CellSource.state l.fn.work).held) l.level l.flaws;
}
