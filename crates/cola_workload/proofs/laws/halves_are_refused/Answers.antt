use Rattle.cola_store.specs.Table.{store_table}
use Rattle.cola_workload.proofs.Parts.{filling-by-call, asking-by-call, not-empty}
use Rattle.cola_workload.proofs.laws.halves_are_refused.Goals as goal

pub returns-clause-filling : goal.returns-clause-filling
returns-clause-filling g c = λ keys steps steps' status before now. filling-by-call g.D.Device (store_table g.D.Device) keys before now steps steps' status

pub returns-clause-asking : goal.returns-clause-asking
returns-clause-asking g c = λ keys steps steps' status tally before now. asking-by-call g.D.Device (store_table g.D.Device) keys before now tally steps steps' status

pub returns-clause-not_empty : goal.returns-clause-not_empty
returns-clause-not_empty g c = λ keys steps steps' before now. not-empty g.D.Device (store_table g.D.Device) keys before now steps steps'
