use Rattle.cola_cell.proofs.Unique.{one-spelling}
use Rattle.cola_cell.proofs.law.spelling_is_one.Goals as goal

pub returns : goal.returns
returns c = λ format cell first second a b. one-spelling format cell first second a b
