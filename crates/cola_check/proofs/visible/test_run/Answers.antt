use Rattle.std.proofs.Common.{[]}
use Rattle.cola_check.proofs.Common.{run_cells, lists_below}
use Rattle.cola_check.proofs.visible.test_run.Goals as goal

pub returns-clause-order : goal.returns-clause-order
returns-clause-order g c = λ told.
    let held = (g.W.CellSource.state c.args.work.now).held in
    c.tests_of.ensures.order (lists_below held c.args.below []) (run_cells held c.args.run.now) (c.in_ok-seen.ensures.seen told [])

pub returns-clause-few : goal.returns-clause-few
returns-clause-few g c = λ told.
    let held = (g.W.CellSource.state c.args.work.now).held in
    c.tests_of.ensures.few (lists_below held c.args.below []) (run_cells held c.args.run.now) (c.in_ok-seen.ensures.seen told [])
