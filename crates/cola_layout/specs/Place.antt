-- Which cells of a store's file are places of its slots: a cell's number at a place, and which places there are, are those
-- of cells. The header stands in the cells 0 to 7.
use Rattle.std.specs.Prelude.{◌≡◌, ℕ, ◌+◌}
use Rattle.cola_cell.specs.Places.{number_of, IsPlace}

-- the cell is that of a place of a store with this lowest level
pub record HasPlace (bottom cell : ℕ) : Type 0 where
  pub level : ℕ
  pub slot : ℕ
  pub index : ℕ
  pub is : IsPlace (bottom + 1) level slot index
  pub at : number_of level slot index ≡ cell
