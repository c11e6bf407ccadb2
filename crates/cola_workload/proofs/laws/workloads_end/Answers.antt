use Rattle.cola_store.specs.Table.{store_table}
use Rattle.cola_workload.proofs.Parts.{well, front, refused-half}
use Rattle.cola_workload.proofs.laws.workloads_end.Goals as goal

pub returns-clause-status_0 : goal.returns-clause-status_0
returns-clause-status_0 g c = λ keys steps steps' before now sink sink'. well g.D.Device (store_table g.D.Device) keys g.K.Sink before now sink sink' steps steps'

pub returns-clause-status_4 : goal.returns-clause-status_4
returns-clause-status_4 g c = λ keys steps steps' before now sink sink'. front g.D.Device (store_table g.D.Device) keys g.K.Sink before now sink sink' steps steps'

pub returns-clause-others : goal.returns-clause-others
returns-clause-others g c = λ keys steps steps' status before now sink sink'. refused-half g.D.Device (store_table g.D.Device) keys g.K.Sink before now sink sink' steps steps' status
