use Rattle.std.proofs.Common.{◌+◌, ◌<◌, ◌≤◌, ℕ}
use Rattle.cola_check.proofs.Common.{Costs, IsTelling, blocks_above, AreRunsTold, cells_above, Looked}
use Rattle.cola_check.proofs.cells.first_bad_cell.Given as goal

abbrev pub invariant-loop-level : goal.invariant-loop-level
invariant-loop-level g l = record {
  looks : Looked g.W.CellSource l.fn.work l.work;
  cost : Costs (g.W.CellSource.state l.fn.work).spent (g.W.CellSource.state l.work).spent l.fn.steps l.steps (cells_above l.header l.level) (cells_above l.header l.level);
  blocks : (g.W.CellSource.state l.work).spent.turned ≤ (g.W.CellSource.state l.fn.work).spent.turned + blocks_above l.header (g.W.CellSource.state l.fn.work).held l.level;
  told : IsTelling (g.W.CellSource.state l.fn.work).held → (level : ℕ) → level < l.level → AreRunsTold l.header (g.W.CellSource.state l.fn.work).held level;
}
