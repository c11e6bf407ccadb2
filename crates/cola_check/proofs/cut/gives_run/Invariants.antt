-- The cells of the run up to the index were given.
use Rattle.std.proofs.Common.{◌≡◌}
use Rattle.cola_check.proofs.Common.{IsAway}
use Rattle.cola_check.proofs.RunBlocks.{AlongReadsOn}
use Rattle.cola_check.proofs.Cuts.{Following}
use Rattle.cola_check.proofs.cut.gives_run.Given as goal

abbrev pub invariant-loop-index : goal.invariant-loop-index
invariant-loop-index g l = record {
  kept : g.W.CellSource.kept l.work ≡ g.W.CellSource.kept l.fn.work;
  blocks : IsAway l.run.level l.aim.incoming → AlongReadsOn l.aim l.run (g.W.CellSource.state l.fn.work) (g.W.CellSource.state l.work) l.fn.merger l.merger l.index;
  following : Following (g.W.CellSource.state l.fn.work) (g.W.CellSource.state l.work) l.aim l.run l.fn.merger l.merger l.fn.steps l.steps l.index;
}
