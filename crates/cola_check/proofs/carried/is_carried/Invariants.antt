use Rattle.std.proofs.Common.{◌+◌, ◌≤◌}
use Rattle.cola_check.proofs.Common.{Turns, ahead, FitsAt, ReadApart, beside_blocks, three_blocks, Looked}
use Rattle.cola_check.specs.Beside.{all_unread}
use Rattle.cola_check.proofs.Carrying.{IsGoing}
use Rattle.cola_check.proofs.carried.is_carried.Given as goal

abbrev pub invariant-loop-key : goal.invariant-loop-key
invariant-loop-key g l = record {
  looks : Looked g.W.CellSource l.fn.work l.work;
  turns : Turns (g.W.CellSource.state l.fn.work).spent (g.W.CellSource.state l.work).spent l.fn.steps l.steps;
  unread : l.steps + all_unread l.walks ≤ l.fn.steps + (l.fn.above.len + l.fn.own.len + l.fn.shadow.len);
  apart : ReadApart l.walks;
  blocks : (g.W.CellSource.state l.work).spent.turned + beside_blocks (g.W.CellSource.state l.work) l.walks
      ≤ (g.W.CellSource.state l.fn.work).spent.turned + three_blocks (g.W.CellSource.state l.fn.work).held l.fn.above l.fn.own l.fn.shadow;
  going : IsGoing (FitsAt l.fn.odd l.fn.bottom) (g.W.CellSource.state l.fn.work).held l.fn.above l.fn.own l.fn.shadow l.walks;
}

abbrev pub decreases-loop-key : goal.decreases-loop-key
decreases-loop-key g l = ahead l.walks.above + ahead l.walks.own + ahead l.walks.shadow
