-- The file was filled and asked, or a call was refused.
use Rattle.std.proofs.Common.{refl}
use Rattle.cola_store.specs.contracts.table.StoreTable.TheImpl.{ghosts}
use Rattle.cola_workload.specs.Workload.GenEnds.{FillRefused}
use Rattle.cola_workload.proofs.Working.{gen-ends}
use Rattle.cola_workload.proofs.OnEmpty.{on-empty, kept-many}
use Rattle.cola_workload.proofs.workload.serve_workload.Goals as goal

pub returns-in-Ok-clause-ends : goal.returns-in-Ok-clause-ends
returns-in-Ok-clause-ends g c =
    gen-ends g.K.Sink g.D.Device (ghosts g.row.D g.D.Device g.D.Device-dict) c.args.keys c.args.device c.ask_file.result.0 c.in-Ok.device c.in-Ok.tally c.args.sink.now c.ask_file.new.sink c.args.steps.now c.fill_file.new.steps c.ask_file.new.steps c.ask_file.result.1 c.in-Ok.ensures.ends c.ask_file.ensures.ends

pub returns-in-Ok-clause-on_empty : goal.returns-in-Ok-clause-on_empty
returns-in-Ok-clause-on_empty g c = λ empty.
    on-empty g.K.Sink g.D.Device (ghosts g.row.D g.D.Device g.D.Device-dict) c.args.keys g.met.D.Device.told (λ s m h. h) (λ s m h. h) (λ s. refl) (kept-many g.D.Device.bytes g.D.Device.counts g.D.Device.kept)
    c.args.device c.ask_file.result.0 c.args.sink.now c.ask_file.new.sink c.args.steps.now c.ask_file.new.steps c.ask_file.result.1 c.requires empty
    (gen-ends g.K.Sink g.D.Device (ghosts g.row.D g.D.Device g.D.Device-dict) c.args.keys c.args.device c.ask_file.result.0 c.in-Ok.device c.in-Ok.tally c.args.sink.now c.ask_file.new.sink c.args.steps.now c.fill_file.new.steps c.ask_file.new.steps c.ask_file.result.1 c.in-Ok.ensures.ends c.ask_file.ensures.ends)

pub returns-in-Err-clause-ends : goal.returns-in-Err-clause-ends
returns-in-Err-clause-ends g c = FillRefused c.in-Err.ensures.ends refl

pub returns-in-Err-clause-on_empty : goal.returns-in-Err-clause-on_empty
returns-in-Err-clause-on_empty g c = λ empty.
    on-empty g.K.Sink g.D.Device (ghosts g.row.D g.D.Device g.D.Device-dict) c.args.keys g.met.D.Device.told (λ s m h. h) (λ s m h. h) (λ s. refl) (kept-many g.D.Device.bytes g.D.Device.counts g.D.Device.kept)
    c.args.device c.in-Err.refused.0 c.args.sink.now c.args.sink.now c.args.steps.now c.fill_file.new.steps c.in-Err.refused.1 c.requires empty
    (FillRefused c.in-Err.ensures.ends refl)
