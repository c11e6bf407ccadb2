use Rattle.cola_store.proofs.OpenLaws.{lost-answer}
use Rattle.cola_store.proofs.session_laws.another_state_is_no_store.Goals as goal

pub returns : goal.returns
returns g c = λ cache state before closed m result. lost-answer g.D.Device cache before state closed m result
