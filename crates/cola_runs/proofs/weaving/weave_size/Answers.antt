use Rattle.cola_runs.proofs.Builds.{weave_fits}
use Rattle.cola_runs.proofs.weaving.weave_size.Goals as goal

pub returns : goal.returns
returns g c = λ part own incoming keys j h a b d. weave_fits g.K.Ord.cmp part own incoming keys j h a b d
