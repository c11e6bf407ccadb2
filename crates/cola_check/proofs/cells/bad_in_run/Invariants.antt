use Rattle.cola_check.proofs.Common.{Costs, IsTelling, AreTold, Own, GoesOn, Looked}
use Rattle.cola_check.proofs.cells.bad_in_run.Given as goal

abbrev pub invariant-loop-index : goal.invariant-loop-index
invariant-loop-index g l = record {
  looks : Looked g.W.CellSource l.fn.work l.work;
  cost : Costs (g.W.CellSource.state l.fn.work).spent (g.W.CellSource.state l.work).spent l.fn.steps l.steps l.index l.index;
  goes : GoesOn (g.W.CellSource.state l.fn.work) (g.W.CellSource.state l.work) Own l.run 0 l.index;
  told : IsTelling (g.W.CellSource.state l.fn.work).held → AreTold ((g.W.CellSource.state l.fn.work).held.spots l.run.level l.run.slot) l.index;
}
