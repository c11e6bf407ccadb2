use Rattle.std.proofs.Common.{◌≡◌, None}
use Rattle.cola_look.proofs.Looking.{Looked}
use Rattle.cola_search.proofs.FindLemmas.{Finding}
use Rattle.cola_search.proofs.finding.find.Given as goal

abbrev pub invariant-loop-i : goal.invariant-loop-i
invariant-loop-i g l = record {
  none : l.sight.hit ≡ None;
  looks : Looked g.W.CellSource l.fn.work l.work;
  finding : Finding l.runs l.key (g.W.CellSource.state l.fn.work) (g.W.CellSource.state l.work) l.fn.steps l.steps l.start l.i;
}
