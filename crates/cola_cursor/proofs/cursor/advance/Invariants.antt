use Rattle.std.proofs.Common.{◌+◌, ◌≤◌, []}
use Rattle.cola_look.proofs.Looking.{Looked}
use Rattle.cola_cursor.specs.Lines.{Reading, all_left, all_ahead}
use Rattle.cola_cursor.specs.Saving.{Saves}
use Rattle.cola_cursor.proofs.Going.{Quiet}
use Rattle.cola_cursor.proofs.cursor.advance.Given as goal

abbrev pub invariant-loop-least : goal.invariant-loop-least
invariant-loop-least g l = record {
  looks : Looked g.W.CellSource l.fn.work l.work;
  reading : Reading (g.W.CellSource.state l.fn.work) (g.W.CellSource.state l.work) l.fn.steps l.steps;
  left : l.steps + all_left l.lines ≤ l.fn.steps + all_left l.fn.lines;
  saves : Saves l.fn.lines l.lines [] l.saved.items;
  quiet : Quiet l.falls (g.W.CellSource.state l.fn.work).held l.end l.fn.lines l.lines;
}

abbrev pub decreases-loop-least : goal.decreases-loop-least
decreases-loop-least g l = all_ahead l.lines
