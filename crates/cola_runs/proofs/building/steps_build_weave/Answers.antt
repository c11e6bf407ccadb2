use Rattle.cola_runs.proofs.Builds.{built_whole}
use Rattle.cola_runs.proofs.building.steps_build_weave.Goals as goal

pub returns : goal.returns
returns g c = λ part own incoming keys h i k n e. built_whole g.met.K.Ord.total part own incoming keys h i k n e
