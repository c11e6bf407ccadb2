-- The file was made, opened and filled, or a call was refused.
use Rattle.std.proofs.Common.{ℕ, refl, subst}
use Rattle.cola_store.specs.contracts.table.StoreTable.TheImpl.{ghosts}
use Rattle.cola_workload.specs.Workload.{FillEnds}
use Rattle.cola_workload.specs.Workload.FillingRefused.{NotMade, NotOpened}
use Rattle.cola_workload.proofs.workload.fill_file.Goals as goal

pub returns-in-Err-clause-ends : goal.returns-in-Err-clause-ends
returns-in-Err-clause-ends g c = NotMade c.in-Err.fault c.making_status.ensures c.in-Err.ensures.created refl

pub returns-in-Ok-open_on-clause-ends : goal.returns-in-Ok-open_on-clause-ends
returns-in-Ok-open_on-clause-ends g c =
    subst (λ (n : ℕ). FillEnds g.D.Device (ghosts g.row.D g.D.Device g.D.Device-dict) c.args.keys c.args.device n c.fill_store.new.steps c.fill_store.result) c.open_on.ensures.no_tick
    (c.fill_store.ensures.ends c.args.device c.create_as.new.device c.in-Ok.ensures.created c.in-Ok-open_on.ensures.opens)

pub returns-in-Err-open_on-clause-ends : goal.returns-in-Err-open_on-clause-ends
returns-in-Err-open_on-clause-ends g c =
    NotOpened c.in-Err-open_on.fault c.create_as.new.device c.opening_status.ensures c.in-Ok.ensures.created c.in-Err-open_on.ensures.opens c.open_on.ensures.no_tick
