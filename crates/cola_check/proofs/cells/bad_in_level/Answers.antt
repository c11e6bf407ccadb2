use Rattle.cola_check.proofs.BadRuns.{level-answers}
use Rattle.cola_check.proofs.cells.bad_in_level.Goals as goal

pub returns-in-None-clause-finds : goal.returns-in-None-clause-finds
returns-in-None-clause-finds g c =
    level-answers c.args.header.now (g.W.CellSource.state c.args.work.now).held (g.W.CellSource.state c.bad_in_run.new.work).held c.args.level c.run_at.result c.run_at-in-None.result c.in_ok-number.field-0 c.bad_in_run-in-None.result c.in_ok-number.ensures.looks.cells_stay
    c.run_at.ensures.value c.run_at-in-None.ensures.value c.in-None.is c.in_ok-number.ensures.finds c.bad_in_run-in-None.ensures.finds
