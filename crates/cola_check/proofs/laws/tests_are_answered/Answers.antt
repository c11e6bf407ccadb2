use Rattle.cola_check.proofs.CheckSaid.{says}
use Rattle.cola_check.proofs.laws.tests_are_answered.Goals as goal

pub returns : goal.returns
returns g c = λ device device' from to result checks. says g.D.Device device device' from to result checks
