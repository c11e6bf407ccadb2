use Rattle.cola_look.specs.Seek.{first_of, last_of}
use Rattle.cola_look.proofs.Looking.{Looked}
use Rattle.cola_look.proofs.SeekLemmas.{Seeking}
use Rattle.cola_cursor.specs.Turning.{over_key}
use Rattle.cola_cursor.proofs.stop.stop_over.Given as goal

abbrev pub invariant-loop-index : goal.invariant-loop-index
invariant-loop-index g l = record {
  looks : Looked g.W.CellSource l.fn.work l.work;
  seeking : Seeking l.run l.next_len l.start (over_key l.key) (g.W.CellSource.state l.fn.work) (g.W.CellSource.state l.work) l.fn.steps l.steps (first_of l.start l.run.len) (last_of l.start l.run.len) l.index;
}
