-- The cells of an object as lists of exact lengths, also where it tells none.
use Rattle.std.specs.Prelude.{◌≡◌, ℕ, zero, suc, ◌<◌, List, [], ◌∷◌}
use Rattle.cola_abstract.specs.Cell as laws
use Rattle.cola_cell.specs.declared.cell.Run.{Run}
use Rattle.cola_cell.specs.Held.{Held, Spot, Untold, Bad, Told, LawCell}

-- the cell that is told of a place, and a lookahead cell of no key where none is
abbrev pub cell_at : Spot → LawCell
cell_at Untold = laws.Look [] 0
cell_at Bad = laws.Look [] 0
cell_at (Told c) = c

-- a cell is told of the place
abbrev pub IsTold : Spot → Type 0
IsTold spot = spot ≡ Told (cell_at spot)

-- so many cells, from an index on
abbrev pub cells : (ℕ → Spot) → ℕ → ℕ → List LawCell
cells spots i zero = []
cells spots i (suc n) = cell_at (spots i) ∷ cells spots (suc i) n

-- a cell is told of each place below an index
abbrev pub AreTold : (ℕ → Spot) → ℕ → Type 0
AreTold spots n = (i : ℕ) → i < n → IsTold (spots i)

-- the cells of a run
abbrev pub run_cells : Held → Run → List LawCell
run_cells held run = cells (held.spots run.level run.slot) 0 run.len

-- the cells of the shadow of a level
abbrev pub shadow_cells : Held → ℕ → List LawCell
shadow_cells held level = cells (held.spots level (held.shadows level).slot) 0 (held.shadows level).len

-- the shadow of a level is told whole
abbrev pub IsShadowTold : Held → ℕ → Type 0
IsShadowTold held level = AreTold (held.spots level (held.shadows level).slot) (held.shadows level).len
