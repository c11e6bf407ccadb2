use Rattle.cola_laws.proofs.After.{visibles-flip}
use Rattle.cola_laws.proofs.flips.flips_show_shadows.Goals as goal

pub returns : goal.returns
returns g c = λ t j levels flip. visibles-flip t j levels flip
