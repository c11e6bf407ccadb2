-- The file was opened again and asked, or not opened.
use Rattle.std.proofs.Common.{ℕ, refl, subst}
use Rattle.cola_store.specs.contracts.table.StoreTable.TheImpl.{ghosts}
use Rattle.cola_workload.specs.Workload.{AskEnds}
use Rattle.cola_workload.specs.Workload.AskEnds.{AskRefused}
use Rattle.cola_workload.specs.Workload.AskingRefused.{NotReopened}
use Rattle.cola_workload.proofs.workload.ask_file.Goals as goal

pub returns-in-Ok-clause-ends : goal.returns-in-Ok-clause-ends
returns-in-Ok-clause-ends g c =
    subst (λ (n : ℕ). AskEnds g.K.Sink g.D.Device (ghosts g.row.D g.D.Device g.D.Device-dict) c.args.keys c.args.device c.ask_store.result.0 c.args.tally c.args.sink.now c.ask_store.new.sink n c.ask_store.new.steps c.ask_store.result.1) c.open_on.ensures.no_tick
    (c.ask_store.ensures.ends c.args.device c.in-Ok.ensures.opens)

pub returns-in-Err-clause-ends : goal.returns-in-Err-clause-ends
returns-in-Err-clause-ends g c = AskRefused (NotReopened c.in-Err.fault c.opening_status.ensures c.in-Err.ensures.opens c.open_on.ensures.no_tick) refl
