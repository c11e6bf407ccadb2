use Rattle.cola_spec.specs.Map.{empty_map}
use Rattle.cola_store.proofs.OpenLaws.{opens-to, new-stands}
use Rattle.cola_store.proofs.session_laws.a_new_file_opens.Goals as goal

pub returns : goal.returns
returns g c = λ format keys block_exp cache empty made creation result created ok some. opens-to g.D.Device cache made empty_map result (new-stands g.D.Device format keys block_exp empty made creation created ok some)
