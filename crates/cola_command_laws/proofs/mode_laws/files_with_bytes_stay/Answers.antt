use Rattle.cola_store.specs.Table.{store_table}
use Rattle.cola_command_laws.proofs.Occupied.{create-stays, workload-stays, upgrade-stays}
use Rattle.cola_command_laws.proofs.mode_laws.files_with_bytes_stay.Goals as goal

pub returns-clause-create : goal.returns-clause-create
returns-clause-create g c = λ format keys block_exp status device device' ends some. create-stays g.D.Device format keys block_exp device device' status some ends

pub returns-clause-workload : goal.returns-clause-workload
returns-clause-workload g c = λ keys steps steps' status device device' sink sink' ends some.
    workload-stays g.K.Sink g.D.Device (store_table g.D.Device) keys device device' some steps steps' status sink sink' ends

pub returns-clause-upgrade : goal.returns-clause-upgrade
returns-clause-upgrade g c = λ status device device' second second' ends some. upgrade-stays g.D.Device device device' second second' some ends.answer ends.upgraded
