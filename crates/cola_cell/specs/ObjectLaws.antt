-- What the laws of every object of cells say, of the cells that it holds before and after a call.
use Rattle.std.specs.Prelude.{◌≡◌, ◌≢◌, ◌⊎◌, ℕ, ◌+◌, ◌≤◌, ◌<◌, false, List, ◌++◌, ◌∷◌, [], Result, Ok, Err, slice_index_or}
use Rattle.cola_cell.specs.declared.cell.Cell.{Cell}
use Rattle.cola_cell.specs.declared.cell.Run.{Run}
use Rattle.cola_cell.specs.declared.fault.ReadFault.{ReadFault}
use Rattle.cola_cell.specs.declared.fault.ReadFault.TheVariants.{BadCell}
use Rattle.cola_cell.specs.declared.fault.PushFault.{PushFault}
use Rattle.cola_cell.specs.Places.{number_of, IsPlace}
use Rattle.cola_cell.specs.Held.{Held, HasPlace, LawCell, as_cell, is_untold, IsElsewhere}
use Rattle.cola_cell.specs.Spent.{Spent, Buffer}
use Rattle.cola_cell.specs.State.{State}
use Rattle.cola_cell.specs.Reads.{Reads}
use Rattle.cola_cell.specs.Shadows.{IsKept, Restarts, Pushes, Finishes}
use Rattle.cola_cell.specs.Listed.{IsRun}
use Rattle.cola_cell.specs.Costs.{Costs, ReadCause}

-- the place at which the shadow of a level ends, behind its last cell, is told
abbrev pub IsEndTold : Held → ℕ → Type 0
IsEndTold held level = is_untold (held.spots level (held.shadows level).slot (held.shadows level).len) ≡ false

-- the run of all cells of the shadow of a level
abbrev pub shadow_run : Held → ℕ → Run
shadow_run held level = record { level = level; slot = (held.shadows level).slot; len = (held.shadows level).len }

-- the run is in another slot than the shadow of a level, or does not reach behind that shadow's end
abbrev pub EndsBefore : Held → ℕ → Run → Type 0
EndsBefore held level run =
    (run.level ≢ level) ⊎ (run.slot ≢ (held.shadows level).slot) ⊎ (run.len ≤ (held.shadows level).len)

-- a later read of the place at which a cell was pushed, while the cells stay, gives a cell that is the same
abbrev pub PushedCellIsRead : Type 0
PushedCellIsRead =
    (old new : State) (level : ℕ) (cell : Cell) (earlier later : State) (buffer : Buffer) (found : Cell) →
    Pushes old new level cell (Ok (tt {0})) → IsEndTold old.held level → earlier.held ≡ new.held →
    Reads earlier later buffer level (old.held.shadows level).slot (old.held.shadows level).len (Ok found) →
    as_cell found ≡ as_cell cell

-- each run that ends before the shadow's end has the same cells after a push, whatever that answers
abbrev pub PushKeepsRuns : Type 0
PushKeepsRuns =
    (old new : State) (level : ℕ) (cell : Cell) (result : Result Unit PushFault) (run : Run) (cells : List LawCell) →
    Pushes old new level cell result → EndsBefore old.held level run → IsRun old.held run cells → IsRun new.held run cells

-- the shadow's run after an accepted push has the cells that it had, and the one that was pushed behind them
abbrev pub PushAddsACell : Type 0
PushAddsACell =
    (old new : State) (level : ℕ) (cell : Cell) (cells : List LawCell) →
    Pushes old new level cell (Ok (tt {0})) → IsEndTold old.held level →
    IsRun old.held (shadow_run old.held level) cells →
    IsRun new.held (shadow_run new.held level) (cells ++ as_cell cell ∷ [])

-- a run has the same cells after a restart where it is in another slot than the shadow that is given up, or that was kept
abbrev pub RestartKeepsRuns : Type 0
RestartKeepsRuns =
    (old new : Held) (level slot : ℕ) (run : Run) (cells : List LawCell) → Restarts old new level slot →
    (run.level ≢ level) ⊎ (run.slot ≢ (old.shadows level).slot) ⊎ IsKept old level →
    IsRun old run cells → IsRun new run cells

-- each run that ends before the shadow's end has the same cells after a finish, whatever that answers
abbrev pub FinishKeepsRuns : Type 0
FinishKeepsRuns =
    (old new : State) (level : ℕ) (result : Result Unit PushFault) (run : Run) (cells : List LawCell) →
    Finishes old new level result → EndsBefore old.held level run → IsRun old.held run cells → IsRun new.held run cells

-- the cell that a read within a run gives is the one of the run's list
abbrev pub RunGivesItsCells : Type 0
RunGivesItsCells =
    (before now : State) (buffer : Buffer) (run : Run) (cells : List LawCell) (index : ℕ) (found : Cell) (default : LawCell) →
    IsRun before.held run cells → index < run.len → Reads before now buffer run.level run.slot index (Ok found) →
    slice_index_or cells index default ≡ as_cell found

-- no read within a run answers that the bytes spell no cell
abbrev pub RunIsGood : Type 0
RunIsGood =
    (before now : State) (buffer : Buffer) (run : Run) (cells : List LawCell) (index number : ℕ) →
    IsRun before.held run cells → index < run.len → Reads before now buffer run.level run.slot index (Err (BadCell number)) → ⊥

-- a read, accepted or not, costs one tick and at most one block
abbrev pub ReadCostsOne : Type 0
ReadCostsOne =
    (old new : State) (buffer : Buffer) (level slot index before after : ℕ) (result : Result Cell ReadFault) →
    Reads old new buffer level slot index result → after ≡ before + 1 → Costs old.spent new.spent before after 1 1

-- a refused read of a place of the object has its cause
abbrev pub RefusedReadHasCause : Type 0
RefusedReadHasCause =
    (old new : State) (buffer : Buffer) (level slot index : ℕ) (fault : ReadFault) →
    HasPlace old.held level slot index → Reads old new buffer level slot index (Err fault) →
    ReadCause old.held old.spent.faults new.spent.faults fault

-- the cause of a later call is a cause of all calls from an earlier one on
abbrev pub CauseOfLaterIsCause : Type 0
CauseOfLaterIsCause =
    (held : Held) (before between now : ℕ) (fault : ReadFault) → before ≤ between →
    ReadCause held between now fault → ReadCause held before now fault

-- two calls, one after the other, cost what both cost together
abbrev pub CostsAdd : Type 0
CostsAdd =
    (first second third : Spent) (before between after ticks turns more others : ℕ) →
    Costs first second before between ticks turns → Costs second third between after more others →
    Costs first third before after (ticks + more) (turns + others)

-- cells at different places have different numbers
abbrev pub NumbersDiffer : Type 0
NumbersDiffer =
    (levels level slot index l s i : ℕ) → IsPlace levels level slot index → IsPlace levels l s i →
    IsElsewhere level slot index l s i → number_of l s i ≢ number_of level slot index

-- the number of a cell lies below that at which the level behind the last would begin
abbrev pub NumbersLieBelow : Type 0
NumbersLieBelow =
    (levels level slot index : ℕ) → IsPlace levels level slot index →
    number_of level slot index < number_of levels 0 0
