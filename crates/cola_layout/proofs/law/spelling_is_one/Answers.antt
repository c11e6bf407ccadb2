use Rattle.cola_layout.proofs.Refusing.{text-one}
use Rattle.cola_layout.proofs.law.spelling_is_one.Goals as goal

pub returns : goal.returns
returns c = text-one
