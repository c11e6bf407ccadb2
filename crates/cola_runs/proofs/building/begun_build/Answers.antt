use Rattle.cola_runs.proofs.Builds.{begun_is_under_way}
use Rattle.cola_runs.proofs.building.begun_build.Goals as goal

pub returns : goal.returns
returns g c = λ part own incoming keys. begun_is_under_way g.K.Ord.cmp part own incoming keys
