-- The cells of an object's run as a list of the laws.
use Rattle.std.specs.Prelude.{◌≡◌, ℕ, suc, List, [], ◌∷◌, length, ⊤}
use Rattle.cola_cell.specs.declared.cell.Run.{Run}
use Rattle.cola_cell.specs.Held.{Held, LawCell, Spot, Told}

-- these cells are told from an index of a slot on, one after another
abbrev pub Stands : (ℕ → Spot) → ℕ → List LawCell → Type 0
Stands spots i [] = ⊤
Stands spots i (c ∷ cells) = (spots i ≡ Told c) × Stands spots (suc i) cells

-- the run is told to be this list of cells
pub record IsRun (held : Held) (run : Run) (cells : List LawCell) : Type 0 where
  pub length_is : run.len ≡ length cells
  pub stands : Stands (held.spots run.level run.slot) 0 cells
