use Rattle.std.proofs.Common.{◌≡◌, ◌+◌, ◌≤◌, take, drop, length}
use Rattle.cola_check.proofs.Common.{Turns, runs_of, cells_in, all_unread, Each, BeginsLevel, StandFrom, blocks_of, all_left, Looked}
use Rattle.cola_check.proofs.level_walks.begin_all.Given as goal

abbrev pub invariant-loop-i : goal.invariant-loop-i
invariant-loop-i g l = record {
  looks : Looked g.W.CellSource l.fn.work l.work;
  turns : Turns (g.W.CellSource.state l.fn.work).spent (g.W.CellSource.state l.work).spent l.fn.steps l.steps;
  unread : l.steps + all_unread l.begun.items + cells_in (runs_of (drop l.i l.levels)) ≤ l.fn.steps + cells_in (runs_of l.levels);
  blocks : StandFrom 0 l.levels → (g.W.CellSource.state l.work).spent.turned + all_left (g.W.CellSource.state l.work) l.begun.items
      ≤ (g.W.CellSource.state l.fn.work).spent.turned + blocks_of (g.W.CellSource.state l.fn.work).held (take l.i l.levels);
  count : length l.begun.items ≡ l.i;
  begins : Each (BeginsLevel (g.W.CellSource.state l.fn.work).held) (take l.i l.levels) l.begun.items;
}
