use Rattle.std.proofs.Common.{◌-◌}
use Rattle.cola_table.specs.Terms.{shape}
use Rattle.cola_table.specs.Answers.{put_answer}
use Rattle.cola_line.proofs.Turns.{put_steps, put_refused_steps, put_faults, calls}
use Rattle.cola_line.proofs.ask.put.Goals as goal

pub returns-in-Ok-clause-turn : goal.returns-in-Ok-clause-turn
returns-in-Ok-clause-turn g c = rw c.put_outcome.ensures (record {
  given = c.in-Ok.ensures.given;
  faults = c.in-Ok.ensures.faults;
  step = λ m held.
      let a = c.in-Ok.ensures.answer m held in
      put_steps (shape (g.T.Table.terms c.args.table.now)) m (g.T.Table.holds c.put.new.self) c.args.key.now c.args.value.now (c.put.new.steps - c.args.steps.now) (put_answer c.in-Ok.put) a.0 a.1;
})

pub returns-in-Err-clause-turn : goal.returns-in-Err-clause-turn
returns-in-Err-clause-turn g c = rw c.refused_put.ensures (record {
  given = c.in-Err.ensures.given;
  faults = put_faults (Unit {0}) c.in-Err.fault (g.T.Table.faults c.args.table.now) (g.T.Table.faults c.put.new.self) c.in-Err.ensures.faults;
  step = λ m held.
      let a = c.in-Err.ensures.answer m held in
      put_refused_steps (shape (g.T.Table.terms c.args.table.now)) m (g.T.Table.holds c.put.new.self) c.args.key.now c.args.value.now (c.put.new.steps - c.args.steps.now) c.in-Err.fault a.0 a.1;
})

pub returns-in-Ok-clause-call : goal.returns-in-Ok-clause-call
returns-in-Ok-clause-call g c = calls g.T.Table c.args.table.now c.put.new.self c.args.steps.now c.put.new.steps _ c.in-Ok.ensures.kept c.in-Ok.ensures.call

pub returns-in-Err-clause-call : goal.returns-in-Err-clause-call
returns-in-Err-clause-call g c = calls g.T.Table c.args.table.now c.put.new.self c.args.steps.now c.put.new.steps _ c.in-Err.ensures.kept c.in-Err.ensures.call
