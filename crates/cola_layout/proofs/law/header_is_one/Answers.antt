use Rattle.cola_layout.proofs.Refusing.{spelling-one}
use Rattle.cola_layout.proofs.law.header_is_one.Goals as goal

pub returns : goal.returns
returns c = spelling-one
