use Rattle.cola_store.proofs.OpenLaws.{opens-to, closed-stands}
use Rattle.cola_store.proofs.session_laws.a_closed_store_opens_again.Goals as goal

pub returns : goal.returns
returns g c = λ cache store m now result holds closed. opens-to g.D.Device cache now m result (closed-stands g.D.Device store m now holds closed)
