-- The tests behind those that found nothing.
use Rattle.std.proofs.Common.{◌*◌, [], ◌∷◌, arith}
use Rattle.cola_check.proofs.Common.{Order, Sample, Length, all_blocks}
use Rattle.cola_verdict.specs.declared.verdict.Flaw.TheVariants.{Cell}
use Rattle.cola_check.proofs.After.{goes-on}
use Rattle.cola_check.proofs.RunBlocks.{turns-then}
use Rattle.cola_check.proofs.testing.test_runs.Goals as goal

pub returns-in-None-clause-finds : goal.returns-in-None-clause-finds
returns-in-None-clause-finds g c =
    goes-on c.args.header.now (g.W.CellSource.state c.args.work.now).held (g.W.CellSource.state c.test_visibles.new.work).held (Cell ∷ []) (Order ∷ Sample ∷ Length ∷ []) c.in_ok-verdict.field-0 c.test_rest.result
    c.test_visibles.ensures.looks.cells_stay c.in-None.is c.in_ok-verdict.ensures.finds c.test_rest.ensures.finds

pub returns-in-None-clause-blocks : goal.returns-in-None-clause-blocks
returns-in-None-clause-blocks g c =
    let w = g.W.CellSource in
    let all = all_blocks c.args.header.now (w.state c.args.work.now).held in
    turns-then (w.state c.args.work.now) (w.state c.test_visibles.new.work) (w.state c.test_rest.new.work) (2 * all) (λ held. 7 * all_blocks c.args.header.now held) (9 * all) c.test_rest.result
    c.test_visibles.ensures.looks.cells_stay c.in_ok-verdict.ensures.blocks (omega arith) c.test_rest.ensures.blocks
