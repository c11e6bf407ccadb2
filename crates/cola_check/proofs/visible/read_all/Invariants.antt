use Rattle.std.proofs.Common.{◌≡◌, ◌+◌, ◌≤◌, min, List}
use Rattle.cola_check.proofs.Common.{Costs, LawCell, run_blocks, run_blocks_or, cells, AreBothTold, lists_below, sample_len, IsSeen, Looked}
use Rattle.cola_check.proofs.RunBlocks.{both_left}
use Rattle.cola_check.proofs.visible.read_all.Given as goal

abbrev pub invariant-loop-index : goal.invariant-loop-index
invariant-loop-index g l = record {
  looks : Looked g.W.CellSource l.fn.work l.work;
  cost : Costs (g.W.CellSource.state l.fn.work).spent (g.W.CellSource.state l.work).spent l.fn.steps l.steps (l.index + min l.seen.looks (sample_len l.below)) (l.index + min l.seen.looks (sample_len l.below));
  blocks : both_left (g.W.CellSource.state l.work) l.run l.below l.index l.seen.looks
      ≤ (g.W.CellSource.state l.fn.work).spent.turned + (run_blocks (g.W.CellSource.state l.fn.work).held l.run + run_blocks_or (g.W.CellSource.state l.fn.work).held l.below);
  place_is : l.seen.place ≡ l.index;
  seen : AreBothTold (g.W.CellSource.state l.fn.work).held l.run l.below → (rest : List (List LawCell)) →
      IsSeen (lists_below (g.W.CellSource.state l.fn.work).held l.below rest) (cells ((g.W.CellSource.state l.fn.work).held.spots l.run.level l.run.slot) 0 l.index) l.seen;
}
