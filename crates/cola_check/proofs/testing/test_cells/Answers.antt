-- The verdict where no cell is bad.
use Rattle.std.proofs.Common.{◌*◌, arith}
use Rattle.cola_check.proofs.Common.{all_blocks, costs_then, costs_within, all_cells}
use Rattle.cola_check.proofs.RunBlocks.{turns-then}
use Rattle.cola_check.proofs.After.{of-runs}
use Rattle.cola_check.proofs.Judging.{all-ticks}
use Rattle.cola_check.proofs.testing.test_cells.Goals as goal

pub returns-in-None-clause-tests : goal.returns-in-None-clause-tests
returns-in-None-clause-tests g c =
    let w = g.W.CellSource in
    of-runs c.args.header.now (w.state c.args.work.now) (w.state c.first_bad_cell.new.work) (w.state c.test_runs.new.work) c.in_ok-level.field-0 c.test_runs.result c.first_bad_cell.ensures.looks.cells_stay
    c.in_ok-level.ensures.looks.calm c.in-None.is c.in_ok-level.ensures.finds c.test_runs.ensures.finds c.test_runs.ensures.reads.cause

pub returns-in-None-clause-costs : goal.returns-in-None-clause-costs
returns-in-None-clause-costs g c =
    let few = all-ticks (all_cells c.args.header.now) c.args.header.now.geometry.bottom c.first_bad_cell.ensures.few in
    costs_within (costs_then c.first_bad_cell.ensures.reads.cost c.test_runs.ensures.reads.cost) few few

pub returns-in-None-clause-blocks : goal.returns-in-None-clause-blocks
returns-in-None-clause-blocks g c =
    let w = g.W.CellSource in
    let all = all_blocks c.args.header.now (w.state c.args.work.now).held in
    turns-then (w.state c.args.work.now) (w.state c.first_bad_cell.new.work) (w.state c.test_runs.new.work) (all) (λ held. 9 * all_blocks c.args.header.now held) (10 * all) c.test_runs.result
    c.first_bad_cell.ensures.looks.cells_stay c.first_bad_cell.ensures.blocks (omega arith) c.test_runs.ensures.blocks
