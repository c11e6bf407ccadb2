-- The store was asked for every key and closed, or a call was refused.
use Rattle.std.proofs.Common.{◌∙◌, ℕ, Ok, Err, refl, sym, subst}
use Rattle.cola_gen.specs.Answered.{at}
use Rattle.cola_store.specs.contracts.table.StoreTable.TheImpl.{ghosts}
use Rattle.cola_store.proofs.Storing.{counted-is}
use Rattle.cola_report.specs.Line.{LineEnds}
use Rattle.cola_workload.specs.Workload.{workload_line}
use Rattle.cola_workload.specs.Workload.AskEnds.{Told, AskRefused}
use Rattle.cola_workload.specs.Workload.AskingRefused.{NotAsked, NotClosedAgain}
use Rattle.cola_workload.proofs.Working.{asks, asked-cause}
use Rattle.cola_workload.proofs.workload.ask_store.Goals as goal

pub returns-in-Err-clause-ends : goal.returns-in-Err-clause-ends
returns-in-Err-clause-ends g c = λ before opened.
    AskRefused
    (NotAsked c.in-Err.fault (at c.verify.new.table c.verify.new.tally c.verify.new.steps) c.asking_status.ensures
    (record { store = c.args.store; opened = opened; asks = asks g.D.Device (ghosts g.row.D g.D.Device g.D.Device-dict) c.args.keys (at c.args.store c.args.tally c.args.steps.now) (at c.verify.new.table c.verify.new.tally c.verify.new.steps) c.levels-levels.result (Err c.in-Err.fault) c.levels-levels.ensures c.in-Err.ensures.given c.in-Err.ensures.sound c.in-Err.ensures.wrong c.in-Err.ensures.none_wrong c.in-Err.ensures.not_over c.in-Err.ensures.tallied c.in-Err.ensures.spent c.in-Err.ensures.faults })
    c.close_once.ensures.closed refl) refl

pub returns-in-Err-clause-faults : goal.returns-in-Err-clause-faults
returns-in-Err-clause-faults g c = λ e.
    asked-cause c.in-Err.fault (g.D.Device.counts c.args.store.chain.store.buffers.cache.device).faults (g.D.Device.counts c.verify.new.table.chain.store.buffers.cache.device).faults (g.D.Device.counts c.close_once.result).faults
    c.in-Err.ensures.faults c.close_once.ensures.faults_stay (sym c.asking_status.ensures ∙ e)

pub returns-in-Ok-close-clause-ends : goal.returns-in-Ok-close-clause-ends
returns-in-Ok-close-clause-ends g c = λ before opened.
    Told (at c.verify.new.table c.verify.new.tally c.verify.new.steps)
    (record { was = record { store = c.args.store; opened = opened; asks = asks g.D.Device (ghosts g.row.D g.D.Device g.D.Device-dict) c.args.keys (at c.args.store c.args.tally c.args.steps.now) (at c.verify.new.table c.verify.new.tally c.verify.new.steps) c.levels-levels.result (Ok tt) c.levels-levels.ensures c.in-Ok.ensures.given c.in-Ok.ensures.sound c.in-Ok.ensures.wrong c.in-Ok.ensures.none_wrong c.in-Ok.ensures.not_over c.in-Ok.ensures.tallied c.in-Ok.ensures.spent c.in-Ok.ensures.faults }; closed = c.in-Ok-close.ensures.closes })
    refl
    (subst (λ (n : ℕ). LineEnds g.K.Sink (workload_line c.verify.new.tally n) 0 c.args.sink.now c.write_tally.new.sink c.write_tally.result) (counted-is c.count-left.result c.verify.new.table.count c.count-left.ensures.given.0.0) c.write_tally.ensures)

pub returns-in-Err-close-clause-ends : goal.returns-in-Err-close-clause-ends
returns-in-Err-close-clause-ends g c = λ before opened.
    AskRefused
    (NotClosedAgain (at c.verify.new.table c.verify.new.tally c.verify.new.steps) refl
    (record { store = c.args.store; opened = opened; asks = asks g.D.Device (ghosts g.row.D g.D.Device g.D.Device-dict) c.args.keys (at c.args.store c.args.tally c.args.steps.now) (at c.verify.new.table c.verify.new.tally c.verify.new.steps) c.levels-levels.result (Ok tt) c.levels-levels.ensures c.in-Ok.ensures.given c.in-Ok.ensures.sound c.in-Ok.ensures.wrong c.in-Ok.ensures.none_wrong c.in-Ok.ensures.not_over c.in-Ok.ensures.tallied c.in-Ok.ensures.spent c.in-Ok.ensures.faults })
    (c.close_again.ensures.closed c.verify.new.table c.in-Err-close.ensures.closes) refl) refl
