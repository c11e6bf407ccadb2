use Rattle.cola_runs.proofs.Builds.{steps_stay_within}
use Rattle.cola_runs.proofs.building.steps_fit.Goals as goal

pub returns : goal.returns
returns g c = λ part own incoming keys j h i k a b d n. steps_stay_within g.met.K.Ord.total part own incoming keys j h i k a b d n
