-- Runs of an object.
use Rattle.std.specs.Prelude.{ℕ, ◌≤◌, ◌<◌, List, [], ◌∷◌, ⊤}
use Rattle.cola_runs.specs.Search.{place}
use Rattle.cola_cell.specs.declared.cell.Run.{Run}
use Rattle.cola_cell.specs.Places.{slot_size}
use Rattle.cola_cell.specs.Held.{Held, LawCell}
use Rattle.cola_cell.specs.Listed.{IsRun}
use Rattle.cola_cell.specs.Order.{key_cmp}

-- a run of the object: of one of its levels and slots, and no longer than the slot
pub record HasRun (held : Held) (run : Run) : Type 0 where
  pub level_in : run.level < held.fixed.levels
  pub slot_in : run.slot < 2
  pub within : run.len ≤ slot_size run.level

-- the runs are told to be these lists of cells, one by one
abbrev pub AreRuns : Held → List Run → List (List LawCell) → Type 0
AreRuns held [] [] = ⊤
AreRuns held [] (cells ∷ lists) = ⊥
AreRuns held (run ∷ runs) [] = ⊥
AreRuns held (run ∷ runs) (cells ∷ lists) = IsRun held run cells × AreRuns held runs lists

-- the search of the first run, which begins at its first cell, begins near enough to the key's place
abbrev pub BeginsNear : List ℕ → List (List LawCell) → Type 0
BeginsNear key [] = ⊤
BeginsNear key (cells ∷ lists) = place key_cmp key cells ≤ 7
