use Rattle.cola_runs.proofs.Stepping.{looks_done}
use Rattle.cola_runs.proofs.building.done_looks.Goals as goal

pub returns : goal.returns
returns g c = λ part own incoming keys k build u. looks_done g.K.Ord.cmp part own incoming keys k build u
