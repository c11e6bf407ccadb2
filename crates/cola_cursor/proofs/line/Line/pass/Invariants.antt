use Rattle.std.proofs.Common.{◌≡◌, ◌⊎◌, true, None, ◌+◌, ◌≤◌}
use Rattle.cola_look.proofs.Looking.{Looked}
use Rattle.cola_cursor.specs.Lines.{Reading, left_of, ahead_of}
use Rattle.cola_cursor.specs.Results.{item_of, is_value}
use Rattle.cola_cursor.proofs.Fronts.{Passing}
use Rattle.cola_cursor.proofs.line.Line.pass.Given as goal

abbrev pub invariant-loop-self : goal.invariant-loop-self
invariant-loop-self g l = record {
  looks : Looked g.W.CellSource l.fn.work l.work;
  reading : Reading (g.W.CellSource.state l.fn.work) (g.W.CellSource.state l.work) l.fn.steps l.steps;
  left : l.steps + left_of l.self ≤ l.fn.steps + left_of l.fn.self;
  first : is_value (item_of l.fn.self.head) ≡ true → (is_value l.item ≡ true) ⊎ ((l.item ≡ None) × (l.self ≡ l.fn.self));
  passing : Passing l.falls (g.W.CellSource.state l.fn.work).held l.key l.fn.self l.self l.item;
}

abbrev pub decreases-loop-self : goal.decreases-loop-self
decreases-loop-self g l = ahead_of l.self
