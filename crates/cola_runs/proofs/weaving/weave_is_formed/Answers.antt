use Rattle.cola_runs.proofs.InOrder.{formed_weave}
use Rattle.cola_runs.proofs.weaving.weave_is_formed.Goals as goal

pub returns : goal.returns
returns g c = λ part own incoming keys h. formed_weave g.met.K.Ord.total part own incoming h keys
