use Rattle.cola_laws.proofs.Loaded.{loaded-sound}
use Rattle.cola_laws.proofs.mutation.loaded_chain_is_sound.Goals as goal

pub returns : goal.returns
returns g c = λ most n run bottom. loaded-sound g.met.K.Ord.total most run bottom n
