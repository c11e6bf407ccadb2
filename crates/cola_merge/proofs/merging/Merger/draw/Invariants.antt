-- The source cells that were consumed gave none, and fewer are left.
use Rattle.std.proofs.Common.{◌≡◌, ◌+◌, ◌-◌, []}
use Rattle.cola_merge.specs.Feeds.{feed_len}
use Rattle.cola_merge.specs.Heads.{consumed}
use Rattle.cola_merge.specs.States.{state}
use Rattle.cola_merge.specs.Pulls.{Gave}
use Rattle.cola_merge.proofs.merging.Merger.draw.Given as goal

abbrev pub invariant-loop-next : goal.invariant-loop-next
invariant-loop-next g l = record {
  kept : g.W.CellSource.kept l.work ≡ g.W.CellSource.kept l.fn.work;
  gave : Gave l.aim (state (g.W.CellSource.state l.fn.work) l.fn.self l.fn.steps) (state (g.W.CellSource.state l.work) l.self l.steps) [];
}

abbrev pub decreases-loop-next : goal.decreases-loop-next
decreases-loop-next g l = feed_len l.aim.own + feed_len l.aim.incoming + feed_len l.aim.sample - consumed l.self
