-- The state of an object of cells.
use Rattle.cola_cell.specs.Held.{Held}
use Rattle.cola_cell.specs.Spent.{Spent}

-- what an object holds, and what it has spent
pub record State : Type 0 where
  pub held : Held
  pub spent : Spent
