use Rattle.cola_device.proofs.BytesLemmas.{splice-splice}
use Rattle.cola_device.proofs.laws.later_write_stays.Goals as goal

pub returns : goal.returns
returns c = λ bytes first second at inside same. splice-splice bytes at first second inside same
