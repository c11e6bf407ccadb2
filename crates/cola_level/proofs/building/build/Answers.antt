-- What the work on a merge says.
use Rattle.cola_cell.specs.Fault.{step_of_push}
use Rattle.cola_merge.specs.States.{state}
use Rattle.cola_merge.proofs.Reading.{err_is}
use Rattle.cola_level.proofs.Outcomes.{left, unfinished, ended}
use Rattle.cola_level.proofs.building.build.Goals as goal

pub returns-in_err-finish-in-Done-clause-built : goal.returns-in_err-finish-in-Done-clause-built
returns-in_err-finish-in-Done-clause-built g c =
    unfinished c.args.aim.now (state (g.W.CellSource.state c.args.work.now) c.args.merger.now c.args.steps.now) (state (g.W.CellSource.state c.take_steps.new.work) c.take_steps.new.merger c.take_steps.new.steps)
    (g.W.CellSource.state c.finish.new.self) c.in_ok-take_steps.field-0 c.in-Done.is c.in_ok-take_steps.ensures.stepped c.in_err-finish-in-Done.ensures.spends
    c.from_residual-in_err-finish-in-Done.result c.in_err-finish-in-Done.field-0.0
    (err_is c.from_residual-in_err-finish-in-Done.result (step_of_push c.in_err-finish-in-Done.field-0.0) c.from_residual-in_err-finish-in-Done.ensures.1)
    c.in_err-finish-in-Done.ensures.finishes

pub returns-in_ok-finish-in-Done-clause-built : goal.returns-in_ok-finish-in-Done-clause-built
returns-in_ok-finish-in-Done-clause-built g c =
    ended c.args.aim.now (state (g.W.CellSource.state c.args.work.now) c.args.merger.now c.args.steps.now) (state (g.W.CellSource.state c.take_steps.new.work) c.take_steps.new.merger c.take_steps.new.steps)
    (g.W.CellSource.state c.finish.new.self) c.in_ok-take_steps.field-0 c.in-Done.is c.in_ok-take_steps.ensures.stepped c.in_ok-finish-in-Done.ensures.spends
    c.in_ok-finish-in-Done.field-0 c.in_ok-finish-in-Done.ensures.finishes

pub returns-in-More-clause-built : goal.returns-in-More-clause-built
returns-in-More-clause-built g c =
    left c.args.aim.now (state (g.W.CellSource.state c.args.work.now) c.args.merger.now c.args.steps.now) (state (g.W.CellSource.state c.take_steps.new.work) c.take_steps.new.merger c.take_steps.new.steps)
    c.in_ok-take_steps.field-0 tt c.in-More.is c.in_ok-take_steps.ensures.stepped
