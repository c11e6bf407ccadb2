use Rattle.cola_cell.proofs.Unique.{one-cell}
use Rattle.cola_cell.proofs.law.cell_is_one.Goals as goal

pub returns : goal.returns
returns c = λ format first second bytes a b. one-cell format first second bytes a b
