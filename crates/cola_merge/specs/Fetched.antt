-- What a head is seen as.
use Rattle.std.specs.Prelude.{ℕ, Option}
use Rattle.cola_cell.specs.declared.cell.Cell.{Cell}

-- how many cells of a feed were consumed, and the next one, where it is held
pub record Head : Type 0 where
  pub at : ℕ
  pub cell : Option Cell
