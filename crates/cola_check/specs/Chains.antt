-- The runs of several levels as lists of cells, and the live keys from each level down.
use Rattle.std.specs.Prelude.{◌≡◌, ℕ, ◌≤◌, Bool, cond, List, [], ◌∷◌, length, ⊤}
use Rattle.std.specs.List.{AllByRecursion}
use Rattle.cola_cell.specs.Held.{LawCell, Stamped}
use Rattle.cola_verdict.specs.Tests.{live_pairs}
use Rattle.cola_check.specs.declared.tally.LiveCount.{LiveCount}

-- the visible run of a level and its shadow, and whether its period is odd
pub record LevelCells : Type 0 where
  pub visible : List LawCell
  pub shadow : List LawCell
  pub odd : Bool

-- the visible runs, from the first level on
abbrev pub visible_runs : List LevelCells → List (List LawCell)
visible_runs [] = []
visible_runs (level ∷ levels) = level.visible ∷ visible_runs levels

-- the shadow of the first level, and the runs that lie below it: in an odd period the shadow of the next level and what
-- lies below that, in an even one the visible runs of the levels below
abbrev pub shadow_runs : List LevelCells → List (List LawCell)
shadow_runs [] = []
shadow_runs (level ∷ levels) = level.shadow ∷ cond level.odd (shadow_runs levels) (visible_runs levels)

-- how many live keys the runs have
abbrev pub lives : List (List LawCell) → ℕ
lives runs = length (live_pairs runs)

-- the live keys from the first level down, and of its shadow with the runs below it
pub record IsLiveCount (levels : List LevelCells) (count : LiveCount) : Type 0 where
  pub visible : count.visible ≡ lives (visible_runs levels)
  pub shadow : count.shadow ≡ lives (shadow_runs levels)

-- the same of each level
abbrev pub AreLiveCounts : List LevelCells → List LiveCount → Type 0
AreLiveCounts [] [] = ⊤
AreLiveCounts [] (count ∷ counts) = ⊥
AreLiveCounts (level ∷ levels) [] = ⊥
AreLiveCounts (level ∷ levels) (count ∷ counts) = IsLiveCount (level ∷ levels) count × AreLiveCounts levels counts

-- no pair has a stamp above this number
abbrev pub AreStamped : ℕ → List (List ℕ × Stamped) → Type 0
AreStamped last = AllByRecursion (λ pair. pair.1.stamp ≤ last)
