-- Both merges gave the same cells.
use Rattle.std.proofs.Common.{◌≡◌, ◌+◌, ◌-◌}
use Rattle.cola_check.proofs.Common.{feed_len, consumed, IsSpread}
use Rattle.cola_check.proofs.Cuts.{Comparing}
use Rattle.cola_check.proofs.RunBlocks.{BothReadOn}
use Rattle.cola_check.proofs.cut.gives_same.Given as goal

abbrev pub invariant-loop-one : goal.invariant-loop-one
invariant-loop-one g l = record {
  kept : g.W.CellSource.kept l.work ≡ g.W.CellSource.kept l.fn.work;
  blocks : IsSpread l.aim → BothReadOn l.aim (g.W.CellSource.state l.fn.work) (g.W.CellSource.state l.work) l.fn.first l.fn.second l.first l.second;
  comparing : Comparing (g.W.CellSource.state l.fn.work) (g.W.CellSource.state l.work) l.aim l.fn.first l.first l.fn.second l.second l.fn.steps l.steps;
}

abbrev pub decreases-loop-one : goal.decreases-loop-one
decreases-loop-one g l = feed_len l.aim.own + feed_len l.aim.incoming + feed_len l.aim.sample - consumed l.first
