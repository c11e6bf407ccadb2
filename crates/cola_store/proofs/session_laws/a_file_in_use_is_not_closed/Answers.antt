use Rattle.cola_store.proofs.OpenLaws.{used-answer}
use Rattle.cola_store.proofs.session_laws.a_file_in_use_is_not_closed.Goals as goal

pub returns : goal.returns
returns g c = λ cache before closed m result. used-answer g.D.Device cache before closed m result
