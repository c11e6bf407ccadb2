use Rattle.cola_device.proofs.BytesLemmas.{part-replicate}
use Rattle.cola_device.proofs.laws.laid_out_bytes_are_found.Goals as goal

pub returns : goal.returns
returns c = λ size at count inside. part-replicate size 0 at count inside
