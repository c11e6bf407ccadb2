use Rattle.cola_mirror.proofs.SettledLemmas.{sides-settled}
use Rattle.cola_mirror.proofs.laws.sides_of_a_settled_mirror.Goals as goal

pub returns : goal.returns
returns g c = λ now is. sides-settled g.D.Device g.E.Device is.before is.after now is.settled is.bytes_stay
