use Rattle.std.proofs.Common.{◌-◌}
use Rattle.cola_table.specs.Terms.{shape}
use Rattle.cola_line.proofs.Turns.{get_steps, get_refused_steps, read_faults, calls}
use Rattle.cola_line.proofs.ask.get.Goals as goal

pub returns-in-Ok-clause-turn : goal.returns-in-Ok-clause-turn
returns-in-Ok-clause-turn g c = record {
  given = c.in-Ok.ensures.given;
  faults = c.in-Ok.ensures.faults;
  step = λ m held.
      let a = c.in-Ok.ensures.answer m held in
      get_steps (shape (g.T.Table.terms c.args.table.now)) m (g.T.Table.holds c.get.new.self) c.args.key.now (c.get.new.steps - c.args.steps.now) c.in-Ok.value a.0 a.1;
}

pub returns-in-Err-clause-turn : goal.returns-in-Err-clause-turn
returns-in-Err-clause-turn g c = rw c.failed_read.ensures (record {
  given = c.in-Err.ensures.given;
  faults = read_faults (Unit {0}) c.in-Err.fault (g.T.Table.faults c.args.table.now) (g.T.Table.faults c.get.new.self) c.in-Err.ensures.faults;
  step = λ m held.
      let a = c.in-Err.ensures.answer m held in
      get_refused_steps (shape (g.T.Table.terms c.args.table.now)) m (g.T.Table.holds c.get.new.self) c.args.key.now (c.get.new.steps - c.args.steps.now) c.in-Err.fault a.0 a.1;
})

pub returns-in-Ok-clause-call : goal.returns-in-Ok-clause-call
returns-in-Ok-clause-call g c = calls g.T.Table c.args.table.now c.get.new.self c.args.steps.now c.get.new.steps _ c.in-Ok.ensures.kept c.in-Ok.ensures.call

pub returns-in-Err-clause-call : goal.returns-in-Err-clause-call
returns-in-Err-clause-call g c = calls g.T.Table c.args.table.now c.get.new.self c.args.steps.now c.get.new.steps _ c.in-Err.ensures.kept c.in-Err.ensures.call
