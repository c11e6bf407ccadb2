use Rattle.cola_reverse.proofs.Over.{over}
use Rattle.cola_reverse.proofs.successor.next_of_bytes.Goals as goal

pub returns : goal.returns
returns c = λ k q. over k q
