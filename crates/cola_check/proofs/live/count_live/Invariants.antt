use Rattle.std.proofs.Common.{◌+◌, ◌≤◌, None}
use Rattle.cola_check.proofs.Common.{AreLeasts, Turns, runs_of, cells_in, all_unread, all_ahead, StandFrom, blocks_of, ReadFrom, all_left, Looked}
use Rattle.cola_check.proofs.LiveKeys.{Counting}
use Rattle.cola_check.proofs.live.count_live.Given as goal

abbrev pub invariant-loop-key : goal.invariant-loop-key
invariant-loop-key g l = record {
  looks : Looked g.W.CellSource l.fn.work l.work;
  turns : Turns (g.W.CellSource.state l.fn.work).spent (g.W.CellSource.state l.work).spent l.fn.steps l.steps;
  unread : l.steps + all_unread l.walks.items ≤ l.fn.steps + cells_in (runs_of l.levels);
  placed : StandFrom 0 l.levels → ReadFrom 0 l.walks.items;
  blocks : StandFrom 0 l.levels → (g.W.CellSource.state l.work).spent.turned + all_left (g.W.CellSource.state l.work) l.walks.items
      ≤ (g.W.CellSource.state l.fn.work).spent.turned + blocks_of (g.W.CellSource.state l.fn.work).held l.levels;
  leasts : AreLeasts None l.leasts.items l.walks.items;
  counting : Counting (g.W.CellSource.state l.fn.work).held l.last l.levels l.walks.items l.tally.counts.items l.tally.stamped;
}

abbrev pub decreases-loop-key : goal.decreases-loop-key
decreases-loop-key g l = all_ahead l.walks.items
