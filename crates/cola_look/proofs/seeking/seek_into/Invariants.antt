use Rattle.std.proofs.Common.{◌≡◌, ◌≤◌, ◌-◌, None}
use Rattle.cola_look.specs.Seek.{first_of, last_of}
use Rattle.cola_look.proofs.Looking.{Looked}
use Rattle.cola_look.proofs.SeekLemmas.{Seeking}
use Rattle.cola_look.proofs.seeking.seek_into.Given as goal

abbrev pub invariant-loop-index : goal.invariant-loop-index
invariant-loop-index g l = record {
  looks : Looked g.W.CellSource l.fn.work l.work;
  seeking : Seeking l.run l.next_len l.start l.key (g.W.CellSource.state l.fn.work) (g.W.CellSource.state l.work) l.fn.steps l.steps (first_of l.start l.run.len) (last_of l.start l.run.len) l.index;
  low : first_of l.start l.run.len ≤ l.index;
  none : l.sight.hit ≡ None;
  high : l.index ≤ last_of l.start l.run.len;
}

abbrev pub decreases-loop-index : goal.decreases-loop-index
decreases-loop-index g l = last_of l.start l.run.len - l.index
