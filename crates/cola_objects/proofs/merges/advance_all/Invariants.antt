use Rattle.std.proofs.Common.{◌≡◌}
use Rattle.cola_merge.specs.Heads.{IsReady}
use Rattle.cola_objects.proofs.merges.advance_all.Given as goal

abbrev pub invariant-loop-quota : goal.invariant-loop-quota
invariant-loop-quota g l = record {
  ready : IsReady (g.W.CellSource.state l.work).held l.aim l.merger;
  fixed : (g.W.CellSource.state l.work).held.fixed ≡ (g.W.CellSource.state l.fn.work).held.fixed;
}
