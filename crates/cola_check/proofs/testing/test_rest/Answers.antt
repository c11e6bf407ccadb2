-- The tests behind those that found nothing.
use Rattle.std.proofs.Common.{◌*◌, [], ◌∷◌, arith}
use Rattle.cola_check.proofs.Common.{Order, Sample, Length, Shadow, all_blocks}
use Rattle.cola_verdict.specs.declared.verdict.Flaw.TheVariants.{Cell}
use Rattle.cola_check.proofs.After.{goes-on}
use Rattle.cola_check.proofs.RunBlocks.{turns-then}
use Rattle.cola_check.proofs.testing.test_rest.Goals as goal

pub returns-in-None-clause-finds : goal.returns-in-None-clause-finds
returns-in-None-clause-finds g c =
    goes-on c.args.header.now (g.W.CellSource.state c.args.work.now).held (g.W.CellSource.state c.test_shadows.new.work).held (Cell ∷ Order ∷ Sample ∷ Length ∷ []) (Shadow ∷ []) c.in_ok-verdict.field-0 c.test_live.result
    c.test_shadows.ensures.looks.cells_stay c.in-None.is c.in_ok-verdict.ensures.finds c.test_live.ensures.finds

pub returns-in-None-clause-blocks : goal.returns-in-None-clause-blocks
returns-in-None-clause-blocks g c =
    let w = g.W.CellSource in
    let all = all_blocks c.args.header.now (w.state c.args.work.now).held in
    turns-then (w.state c.args.work.now) (w.state c.test_shadows.new.work) (w.state c.test_live.new.work) (6 * all) (all_blocks c.args.header.now) (7 * all) c.test_live.result
    c.test_shadows.ensures.looks.cells_stay c.in_ok-verdict.ensures.blocks (omega arith) c.test_live.ensures.blocks
