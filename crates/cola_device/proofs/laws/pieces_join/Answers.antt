use Rattle.cola_device.proofs.BytesLemmas.{splice-append}
use Rattle.cola_device.proofs.laws.pieces_join.Goals as goal

pub returns : goal.returns
returns c = λ bytes first second at inside. splice-append bytes at first second inside
