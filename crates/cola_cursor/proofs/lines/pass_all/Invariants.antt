use Rattle.std.proofs.Common.{take}
use Rattle.cola_look.proofs.Looking.{Looked}
use Rattle.cola_cursor.specs.Lines.{Reading}
use Rattle.cola_cursor.specs.Passing.{PassAll}
use Rattle.cola_cursor.proofs.Turns.{Turned}
use Rattle.cola_cursor.proofs.lines.pass_all.Given as goal

abbrev pub invariant-loop-i : goal.invariant-loop-i
invariant-loop-i g l = record {
  looks : Looked g.W.CellSource l.fn.work l.work;
  reading : Reading (g.W.CellSource.state l.fn.work) (g.W.CellSource.state l.work) l.fn.steps l.steps;
  turned : Turned l.falls l.i l.fn.lines l.lines l.fn.saved.items l.saved.items l.fn.steps l.steps;
  passed : PassAll l.falls (g.W.CellSource.state l.fn.work).held l.key (take l.i l.fn.lines) (take l.i l.lines) l.item;
}
