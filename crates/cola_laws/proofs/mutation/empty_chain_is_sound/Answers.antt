use Rattle.cola_laws.proofs.Empty.{empty-sound}
use Rattle.cola_laws.proofs.mutation.empty_chain_is_sound.Goals as goal

pub returns : goal.returns
returns g c = λ most n. empty-sound _ g.K.Ord.cmp most n
