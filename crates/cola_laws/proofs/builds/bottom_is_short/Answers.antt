use Rattle.cola_laws.proofs.Live.{bottom-length}
use Rattle.cola_laws.proofs.builds.bottom_is_short.Goals as goal

pub returns : goal.returns
returns g c = λ most run rising values few. bottom-length g.met.K.Ord.total most run rising values few
