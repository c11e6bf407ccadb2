-- What the search of a list of runs says.
use Rattle.std.specs.Prelude.{◌≡◌, ◌≢◌, ℕ, ◌+◌, ◌*◌, ◌≤◌, List, length, Option, Result, IfErr, option_map}
use Rattle.arrayvec.specs.declared.array_vec.ArrayVec.{ArrayVec}
use Rattle.cola_runs.specs.Search as laws
use Rattle.cola_runs.specs.Seen.{answer}
use Rattle.cola_cell.specs.declared.cell.Item.{Item}
use Rattle.cola_cell.specs.declared.cell.Run.{Run}
use Rattle.cola_cell.specs.declared.fault.ReadFault.{ReadFault}
use Rattle.cola_cell.specs.declared.source.CellSource as source
use Rattle.cola_cell.specs.Costs.{Costs}
use Rattle.cola_cell.specs.Held.{LawCell, as_item}
use Rattle.cola_cell.specs.Order.{key_cmp}
use Rattle.cola_cell.specs.Spent.{Buffer, Search}
use Rattle.cola_cell.specs.State.{State}
use Rattle.cola_look.specs.Outcome.{Found, Answers}
use Rattle.cola_look.specs.Runs.{AreRuns, BeginsNear}
use Rattle.cola_search.specs.Find.{found_in_runs, FindCause}

-- the search of a list of runs for a key: its answer, by what the object told before it, the
-- cause of a refusal, and what it spent
pub record Finds (runs : List Run) (key : List ℕ) (old new : State) (before after : ℕ) (result : Result (Option Item) ReadFault) : Type 0 where
  -- on all runs: the answer that their cells give, as far as they are told
  pub exact : Answers (found_in_runs old.held key 0 runs) (option_map as_item) result
  -- on runs that are told to be lists of cells: the laws' search of the lists
  pub told : (lists : List (List LawCell)) → AreRuns old.held runs lists →
      Answers (Found (laws.find key_cmp key 0 lists)) (option_map as_item) result
  -- on well-formed runs, each with the sample of the next: the item of the first run that has one
  pub right : (lists : List (List LawCell)) → AreRuns old.held runs lists →
      laws.AreSampled key_cmp lists → BeginsNear key lists →
      Answers (Found (answer key_cmp key lists)) (option_map as_item) result
  pub cause : IfErr result (FindCause old.held runs old.spent.faults new.spent.faults)
  pub costs : Costs old.spent new.spent before after (8 * length runs) (2 * length runs)
  -- on such runs it turns to at most one block for each
  pub turns : (lists : List (List LawCell)) → AreRuns old.held runs lists →
      laws.AreSampled key_cmp lists → new.spent.turned ≤ old.spent.turned + length runs
  pub others_stay : (buffer : Buffer) → buffer ≢ Search →
      new.spent.lasts buffer ≡ old.spent.lasts buffer

-- the same of a call on an object of any kind
abbrev pub FindsOn : {W : Type 0} → source.Ghosts W → (before now : W) → (runs : ArrayVec Run 23 Unit) → (key : List ℕ) →
    (ticks ticks_now : ℕ) → Result (Option Item) ReadFault → Type 0
FindsOn w before now runs key ticks ticks_now result =
    Finds runs.items key (w.state before) (w.state now) ticks ticks_now result
