use Rattle.cola_spec.proofs.MachineLaws.{requests_fit}
use Rattle.cola_spec.proofs.laws.requests_fit.Goals as goal

pub returns : goal.returns
returns c = requests_fit
