use Rattle.cola_laws.proofs.Workable.{done-fits}
use Rattle.cola_laws.proofs.builds.no_build_overflows.Goals as goal

pub returns : goal.returns
returns g c = λ part j own incoming keys build h u. done-fits g.met.K.Ord.total part own incoming keys j build h u
