use Rattle.cola_runs.proofs.Builds.{used_up}
use Rattle.cola_runs.proofs.building.used_up_build.Goals as goal

pub returns : goal.returns
returns g c = λ part own incoming keys build u e. used_up g.K.Ord.cmp part own incoming keys build u e
