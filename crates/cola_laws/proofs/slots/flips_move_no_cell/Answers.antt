use Rattle.cola_laws.proofs.InSlots.{flips-move_nothing}
use Rattle.cola_laws.proofs.slots.flips_move_no_cell.Goals as goal

pub returns : goal.returns
returns g c = λ cells none t j marks. flips-move_nothing cells none t j marks
