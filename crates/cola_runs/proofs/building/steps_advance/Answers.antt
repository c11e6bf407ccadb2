use Rattle.cola_runs.proofs.Stepping.{steps_are_advanced}
use Rattle.cola_runs.proofs.building.steps_advance.Goals as goal

pub returns : goal.returns
returns g c = λ part own incoming keys h i k n build u. steps_are_advanced g.met.K.Ord.total part own incoming keys h i k n build u
