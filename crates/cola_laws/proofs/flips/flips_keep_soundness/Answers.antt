use Rattle.cola_laws.proofs.Mutations.{flipped-sound}
use Rattle.cola_laws.proofs.flips.flips_keep_soundness.Goals as goal

pub returns : goal.returns
returns g c = λ most t map k item top below s rest whole room few. flipped-sound g.met.K.Ord.total most t map k item top below s rest whole room few
