use Rattle.cola_cell.proofs.CellLists.{length-cells}
use Rattle.cola_cell.proofs.told_laws.cells_have_their_length.Goals as goal

pub returns : goal.returns
returns c = length-cells
