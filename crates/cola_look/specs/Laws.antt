-- What the laws of searches say, and those of readers that go forward.
use Rattle.std.specs.Prelude.{◌≡◌, ℕ, suc, ◌+◌, ◌/◌, ◌≤◌, ◌<◌, List, ◌∷◌, Result, Ok}
use Rattle.std.specs.List.{AllByRecursion}
use Rattle.std.specs.declared.cmp.Ordering.{Ordering}
use Rattle.cola_runs.specs.Cells as laws
use Rattle.cola_runs.specs.Cells.{IsRising}
use Rattle.cola_runs.specs.Search.{AreSampled, place}
use Rattle.cola_cell.specs.declared.cell.Cell.{Cell}
use Rattle.cola_cell.specs.declared.cell.Run.{Run}
use Rattle.cola_cell.specs.declared.fault.ReadFault.{ReadFault}
use Rattle.cola_cell.specs.Places.{Block, block_of}
use Rattle.cola_cell.specs.Held.{Held, LawCell, span}
use Rattle.cola_cell.specs.Spent.{Spent, Buffer}
use Rattle.cola_cell.specs.State.{State}
use Rattle.cola_cell.specs.Reads.{Reads}
use Rattle.cola_cell.specs.Listed.{IsRun}
use Rattle.cola_cell.specs.Order.{key_cmp}
use Rattle.cola_look.specs.Runs.{HasRun}
use Rattle.cola_look.specs.Stops.{StopsAtPlaces}
use Rattle.cola_look.specs.Turns.{turns_left}

-- a run of an object is told to be one list of cells only
abbrev pub RunIsOne : Type 0
RunIsOne = (held : Held) (run : Run) (cells others : List LawCell) →
    IsRun held run cells → IsRun held run others → cells ≡ others

-- a run of level 0 may be searched from its first cell on for any key
abbrev pub LevelZeroIsNear : Type 0
LevelZeroIsNear = (held : Held) (run : Run) (cells : List LawCell) (key : List ℕ) →
    HasRun held run → run.level ≡ 0 → IsRun held run cells → place key_cmp key cells ≤ 7

-- the cells of an aligned eight lie in one block
abbrev pub EightInABlock : Type 0
EightInABlock = (held : Held) (level slot i j : ℕ) → i / 8 ≡ j / 8 →
    block_of (span held) level slot i ≡ block_of (span held) level slot j

module _ {K : Type 0} (V : Type 0) (cmp : K → K → Ordering) where
  -- the search of sampled runs stops in every run at the key's place, where it begins at most 7 cells before it in the first
  abbrev pub SearchStopsAtPlaces : Type 0
  SearchStopsAtPlaces = (q : K) (start : ℕ) (run : List (laws.Cell K V)) (runs : List (List (laws.Cell K V))) →
      AreSampled cmp (run ∷ runs) → start ≤ place cmp q run → place cmp q run ≤ start + 7 →
      StopsAtPlaces cmp q start (run ∷ runs)

  -- sampled runs rise
  abbrev pub SampledRunsRise : Type 0
  SampledRunsRise = (runs : List (List (laws.Cell K V))) →
      AreSampled cmp runs → AllByRecursion (IsRising cmp) runs

-- the blocks that a reader turned to, and those that it may still turn to from an index up to an end
abbrev pub turns_by : Spent → Buffer → Block → (size i end : ℕ) → ℕ
turns_by spent buffer block size i end = spent.turned + turns_left (spent.lasts buffer) block size i end

-- an accepted read takes what it turns to of the blocks that its reader may still turn to
abbrev pub AcceptedReadTurns : Type 0
AcceptedReadTurns =
    (old new : State) (buffer : Buffer) (level slot index : ℕ) (found : Cell) (block next : Block) (size i end : ℕ) →
    Reads old new buffer level slot index (Ok found) → block ≡ block_of (span old.held) level slot index →
    0 < size → i < end → (suc i / size ≡ i / size → next ≡ block) →
    turns_by new.spent buffer next size (suc i) end ≤ turns_by old.spent buffer block size i end

-- a read, refused or not, turns to no more blocks than its reader may still turn to
abbrev pub AnyReadTurns : Type 0
AnyReadTurns =
    (old new : State) (buffer : Buffer) (level slot index : ℕ) (result : Result Cell ReadFault) (block : Block) (size i end : ℕ) →
    Reads old new buffer level slot index result → block ≡ block_of (span old.held) level slot index →
    0 < size → i < end → new.spent.turned ≤ turns_by old.spent buffer block size i end
