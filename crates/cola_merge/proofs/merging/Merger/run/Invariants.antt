-- As many steps were taken as are not left.
use Rattle.std.proofs.Common.{◌≡◌, ◌-◌, ◌≤◌}
use Rattle.cola_merge.specs.States.{Took, state}
use Rattle.cola_merge.proofs.merging.Merger.run.Given as goal

abbrev pub invariant-loop-left : goal.invariant-loop-left
invariant-loop-left g l = record {
  kept : g.W.CellSource.kept l.work ≡ g.W.CellSource.kept l.fn.work;
  few : l.left ≤ l.quota;
  took : Took l.aim (state (g.W.CellSource.state l.fn.work) l.fn.self l.fn.steps) (state (g.W.CellSource.state l.work) l.self l.steps) (l.quota - l.left);
}

abbrev pub decreases-loop-left : goal.decreases-loop-left
decreases-loop-left g l = l.left
