use Rattle.std.proofs.Common.{◌+◌, arith}
use Rattle.cola_check.proofs.Common.{run_blocks, blocks_below, shadow_blocks, three_blocks, shadow_of, costs_then, costs_within}
use Rattle.cola_check.proofs.ShadowTests.{finished-asks}
use Rattle.cola_check.proofs.FileBlocks.{fit-in}
use Rattle.cola_check.proofs.RunBlocks.{turns-then}
use Rattle.cola_check.proofs.finished.is_finished.Goals as goal

pub returns-clause-finished : goal.returns-clause-finished
returns-clause-finished g c =
    let asks = finished-asks c.args.header.now (g.W.CellSource.state c.args.work.now).held c.args.level c.requires.above c.requires.level c.in_ok-is_fit.ensures.looks.cells_stay
    c.visible_run-above.ensures.value c.visible_run-own.ensures.value c.shadow_run-shadow.ensures.value c.is_odd_at-odd.ensures in
    asks.answer (λ told. (c.in_ok-is_fit.ensures.fit told).0 c.if-not-branch.false) c.is_carried.result c.is_carried.ensures.carried

pub returns-clause-reads : goal.returns-clause-reads
returns-clause-reads g c =
    let asks = finished-asks c.args.header.now (g.W.CellSource.state c.args.work.now).held c.args.level c.requires.above c.requires.level c.in_ok-is_fit.ensures.looks.cells_stay
    c.visible_run-above.ensures.value c.visible_run-own.ensures.value c.shadow_run-shadow.ensures.value c.is_odd_at-odd.ensures in
    record {
      cause = asks.cause (g.W.CellSource.state c.args.work.now).spent.faults (g.W.CellSource.state c.is_fit.new.work).spent.faults (g.W.CellSource.state c.is_carried.new.work).spent.faults c.in_ok-is_fit.ensures.looks.calm
          c.is_carried.result c.is_carried.ensures.reads.cause;
      cost = costs_within (costs_then c.in_ok-is_fit.ensures.reads.cost c.is_carried.ensures.reads.cost) asks.ticks asks.ticks;
    }

pub returns-then-not-branch-clause-blocks : goal.returns-then-not-branch-clause-blocks
returns-then-not-branch-clause-blocks g c =
    let few = fit-in c.args.header.now (g.W.CellSource.state c.args.work.now).held c.args.level c.requires.above in
    omega (arith, few, c.in_ok-is_fit.ensures.blocks)

pub returns-clause-blocks : goal.returns-clause-blocks
returns-clause-blocks g c =
    let held = (g.W.CellSource.state c.args.work.now).held in
    let asks = finished-asks c.args.header.now (g.W.CellSource.state c.args.work.now).held c.args.level c.requires.above c.requires.level c.in_ok-is_fit.ensures.looks.cells_stay
    c.visible_run-above.ensures.value c.visible_run-own.ensures.value c.shadow_run-shadow.ensures.value c.is_odd_at-odd.ensures in
    turns-then (g.W.CellSource.state c.args.work.now) (g.W.CellSource.state c.is_fit.new.work) (g.W.CellSource.state c.is_carried.new.work) (run_blocks held (shadow_of c.args.header.now c.args.level) + blocks_below c.args.header.now held c.args.level)
    (λ h. three_blocks h c.visible_run-above.result c.visible_run-own.result c.shadow_run-shadow.result) (shadow_blocks c.args.header.now held c.args.level) c.is_carried.result c.in_ok-is_fit.ensures.looks.cells_stay
    c.in_ok-is_fit.ensures.blocks asks.blocks c.is_carried.ensures.blocks
