use Rattle.cola_check.proofs.Common.{costs_within}
use Rattle.cola_check.proofs.ShadowTests.{cut-asks}
use Rattle.cola_check.proofs.RunBlocks.{turns-within}
use Rattle.cola_check.proofs.shadows.has_cut.Goals as goal

pub is_cut-requires : goal.is_cut-requires
is_cut-requires g c = record {
  fits = (cut-asks c.args.header.now (g.W.CellSource.state c.args.work.now).held c.args.level c.requires.above c.requires.level c.aim_at-aim.ensures c.cursors_at-cursors.ensures c.shadow_run-shadow.ensures.value).fits
      c.requires.levels c.requires.inside;
}

pub returns-clause-cut : goal.returns-clause-cut
returns-clause-cut g c =
    (cut-asks c.args.header.now (g.W.CellSource.state c.args.work.now).held c.args.level c.requires.above c.requires.level c.aim_at-aim.ensures c.cursors_at-cursors.ensures c.shadow_run-shadow.ensures.value).answer
    c.is_cut.result c.is_cut.ensures.cut

pub returns-clause-reads : goal.returns-clause-reads
returns-clause-reads g c =
    let asks = cut-asks c.args.header.now (g.W.CellSource.state c.args.work.now).held c.args.level c.requires.above c.requires.level c.aim_at-aim.ensures c.cursors_at-cursors.ensures c.shadow_run-shadow.ensures.value in
    record {
      cause = asks.cause (g.W.CellSource.state c.args.work.now).spent.faults (g.W.CellSource.state c.is_cut.new.work).spent.faults c.is_cut.result c.is_cut.ensures.reads.cause;
      cost = costs_within c.is_cut.ensures.reads.cost asks.ticks asks.ticks;
    }

pub returns-clause-blocks : goal.returns-clause-blocks
returns-clause-blocks g c =
    turns-within (g.W.CellSource.state c.args.work.now) (g.W.CellSource.state c.is_cut.new.work) _ _ c.is_cut.result
    (cut-asks c.args.header.now (g.W.CellSource.state c.args.work.now).held c.args.level c.requires.above c.requires.level c.aim_at-aim.ensures c.cursors_at-cursors.ensures c.shadow_run-shadow.ensures.value).blocks
    c.is_cut.ensures.blocks
