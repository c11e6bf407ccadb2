use Rattle.std.proofs.Common.{◌+◌, ◌≤◌}
use Rattle.cola_check.proofs.Common.{Turns, ReadsOn, unread, ahead, Looked}
use Rattle.cola_check.proofs.Fronts.{Passing}
use Rattle.cola_check.proofs.walk.Walk.pass.Given as goal

abbrev pub invariant-loop-self : goal.invariant-loop-self
invariant-loop-self g l = record {
  looks : Looked g.W.CellSource l.fn.work l.work;
  turns : Turns (g.W.CellSource.state l.fn.work).spent (g.W.CellSource.state l.work).spent l.fn.steps l.steps;
  unread : l.steps + unread l.self ≤ l.fn.steps + unread l.fn.self;
  blocks : ReadsOn (g.W.CellSource.state l.fn.work) (g.W.CellSource.state l.work) l.fn.self l.self;
  passing : Passing (g.W.CellSource.state l.fn.work).held l.key l.fn.self l.self l.found;
}

abbrev pub decreases-loop-self : goal.decreases-loop-self
decreases-loop-self g l = ahead l.self
