use Rattle.cola_store.proofs.OpenLaws.{opens-to}
use Rattle.cola_store.proofs.session_laws.a_closed_file_opens.Goals as goal

pub returns : goal.returns
returns g c = λ cache before m result. opens-to g.D.Device cache before m result
