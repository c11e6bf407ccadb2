-- The store was filled and closed, or a call was refused.
use Rattle.std.proofs.Common.{Ok, Err, refl}
use Rattle.cola_gen.specs.Answered.{at}
use Rattle.cola_store.specs.contracts.table.StoreTable.TheImpl.{ghosts}
use Rattle.cola_workload.specs.Workload.{no_tally}
use Rattle.cola_workload.specs.Workload.FillingRefused.{NotFilled, NotClosed}
use Rattle.cola_workload.proofs.Working.{fills}
use Rattle.cola_workload.proofs.workload.fill_store.Goals as goal

pub returns-in-Err-clause-ends : goal.returns-in-Err-clause-ends
returns-in-Err-clause-ends g c = λ before made file opened.
    NotFilled c.in-Err.fault made (at c.generate.new.table c.generate.new.tally c.generate.new.steps) c.filling_status.ensures file
    (record { store = c.args.store; opened = opened; fills = fills g.D.Device (ghosts g.row.D g.D.Device g.D.Device-dict) c.args.keys (at c.args.store no_tally c.args.steps.now) (at c.generate.new.table c.generate.new.tally c.generate.new.steps) c.levels-levels.result (Err c.in-Err.fault) c.levels-levels.ensures c.in-Err.ensures.given c.in-Err.ensures.from_empty c.in-Err.ensures.not_over c.in-Err.ensures.tallied c.in-Err.ensures.spent c.in-Err.ensures.faults })
    c.close_once.ensures.closed refl

pub returns-in-Ok-close-clause-ends : goal.returns-in-Ok-close-clause-ends
returns-in-Ok-close-clause-ends g c = λ before made file opened.
    ((at c.generate.new.table c.generate.new.tally c.generate.new.steps), (record { made_on = made; file = file; was = record { store = c.args.store; opened = opened; fills = fills g.D.Device (ghosts g.row.D g.D.Device g.D.Device-dict) c.args.keys (at c.args.store no_tally c.args.steps.now) (at c.generate.new.table c.generate.new.tally c.generate.new.steps) c.levels-levels.result (Ok tt) c.levels-levels.ensures c.in-Ok.ensures.given c.in-Ok.ensures.from_empty c.in-Ok.ensures.not_over c.in-Ok.ensures.tallied c.in-Ok.ensures.spent c.in-Ok.ensures.faults }; closed = c.in-Ok-close.ensures.closes }, refl, refl))

pub returns-in-Err-close-clause-ends : goal.returns-in-Err-close-clause-ends
returns-in-Err-close-clause-ends g c = λ before made file opened.
    NotClosed made (at c.generate.new.table c.generate.new.tally c.generate.new.steps) refl file
    (record { store = c.args.store; opened = opened; fills = fills g.D.Device (ghosts g.row.D g.D.Device g.D.Device-dict) c.args.keys (at c.args.store no_tally c.args.steps.now) (at c.generate.new.table c.generate.new.tally c.generate.new.steps) c.levels-levels.result (Ok tt) c.levels-levels.ensures c.in-Ok.ensures.given c.in-Ok.ensures.from_empty c.in-Ok.ensures.not_over c.in-Ok.ensures.tallied c.in-Ok.ensures.spent c.in-Ok.ensures.faults })
    (c.close_again.ensures.closed c.generate.new.table c.in-Err-close.ensures.closes) refl
