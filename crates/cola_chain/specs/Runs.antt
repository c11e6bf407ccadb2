-- The visible runs of levels, in the order in which they are searched.
use Rattle.std.specs.Prelude.{◌≡◌, ℕ, suc, List, [], ◌∷◌, Option}
use Rattle.cola_runs.specs.Search.{AreSampled}
use Rattle.cola_laws.specs.Chain.{visibles, value_at}
use Rattle.cola_cell.specs.declared.cell.Run.{Run}
use Rattle.cola_cell.specs.Held.{Held, Stamped, LawCell}
use Rattle.cola_cell.specs.Order.{key_cmp}
use Rattle.cola_level.specs.declared.level.Level.{Level}
use Rattle.cola_level.specs.Aims.{visible_run}
use Rattle.cola_level.specs.Marks.{all_marks_of}
use Rattle.cola_level.specs.Standing.{all_stood}
use Rattle.cola_look.specs.Runs.{AreRuns, BeginsNear}
use Rattle.cola_mutation.specs.Standing.{StandsFor}
use Rattle.cola_chain.specs.Contents.{Contents, held_of}

-- the visible run of each level from level j on, at clock t
abbrev pub visible_runs : ℕ → ℕ → List Level → List Run
visible_runs t j [] = []
visible_runs t j (l ∷ ls) = visible_run t j l.visible ∷ visible_runs t (suc j) ls

-- the cells of the visible run of each level
abbrev pub visible_lists : Held → ℕ → List Level → List (List LawCell)
visible_lists held t levels = visibles (all_stood held t 0 (all_marks_of levels))

-- runs as a search wants them: they are told to be these lists, each is well formed and its lookahead cells
-- are the sample of the next, and the first is short enough; and for each key they have what a map has
pub record AreSearched (held : Held) (runs : List Run) (lists : List (List LawCell)) (m : List ℕ → Option Stamped) : Type 0 where
  pub told : AreRuns held runs lists
  pub sampled : AreSampled key_cmp lists
  pub near : (key : List ℕ) → BeginsNear key lists
  pub values : (key : List ℕ) → value_at key_cmp lists key ≡ m key

-- where the levels of a chain stand for a map, these runs are as a search wants them, with the
-- cells of its visible runs and what the map has
abbrev pub AreSearchedRuns : {D : Type 0} → (D → Option (List ℕ)) → Contents D → List Run → Type 0
AreSearchedRuns bytes chain runs = (most : ℕ) (m : List ℕ → Option Stamped) →
    StandsFor (held_of bytes chain) most chain.clock chain.levels m →
    AreSearched (held_of bytes chain) runs (visible_lists (held_of bytes chain) chain.clock chain.levels) m
