use Rattle.cola_device.proofs.BytesLemmas.{part-splice}
use Rattle.cola_device.proofs.laws.written_bytes_are_found.Goals as goal

pub returns : goal.returns
returns c = λ bytes new at inside. part-splice bytes at new inside
