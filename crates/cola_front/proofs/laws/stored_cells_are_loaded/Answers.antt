use Rattle.cola_front.proofs.Image.{image_cell}
use Rattle.cola_front.proofs.laws.stored_cells_are_loaded.Goals as goal

pub returns : goal.returns
returns c = λ front header place is head behind within. image_cell front header place is head behind within
