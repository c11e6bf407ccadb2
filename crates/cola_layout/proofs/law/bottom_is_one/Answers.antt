use Rattle.cola_layout.proofs.Powers.{bottom-is_one}
use Rattle.cola_layout.proofs.law.bottom_is_one.Goals as goal

pub returns : goal.returns
returns c = bottom-is_one
