use Rattle.cola_device.proofs.BytesLemmas.{length-splice}
use Rattle.cola_device.proofs.laws.size_stays.Goals as goal

pub returns : goal.returns
returns c = λ bytes new at inside. length-splice bytes at new inside
