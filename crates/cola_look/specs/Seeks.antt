-- What the search of a run says.
use Rattle.std.specs.Prelude.{◌≡◌, ◌≢◌, ℕ, ◌+◌, ◌≤◌, List, Result, IfOk, IfErr}
use Rattle.cola_runs.specs.Cells.{IsWellFormed}
use Rattle.cola_runs.specs.Search as laws
use Rattle.cola_cell.specs.declared.cell.Run.{Run}
use Rattle.cola_cell.specs.declared.fault.ReadFault.{ReadFault}
use Rattle.cola_cell.specs.Costs.{Costs}
use Rattle.cola_cell.specs.Held.{LawCell}
use Rattle.cola_cell.specs.Listed.{IsRun}
use Rattle.cola_cell.specs.Order.{key_cmp}
use Rattle.cola_cell.specs.Spent.{Buffer, Search}
use Rattle.cola_cell.specs.State.{State}
use Rattle.cola_look.specs.declared.seeking.Seat.{Seat}
use Rattle.cola_look.specs.Outcome.{Found, Answers}
use Rattle.cola_look.specs.Seek.{found_in, seat_of_key, as_seat, SeekCause, turns_from}

-- the search of a run for a key: its answer, by what the object told before it, the cause of a refusal, and what it spent
pub record Seeks (run : Run) (next_len start : ℕ) (key : List ℕ) (old new : State) (before after : ℕ) (result : Result Seat ReadFault) : Type 0 where
  -- on every run: the answer that its cells give, as far as they are told
  pub exact : Answers (found_in old.held run next_len start key) as_seat result
  -- on a run that is told to be a list of cells: the laws' search of the list
  pub told : (cells : List LawCell) → IsRun old.held run cells →
      Answers (Found (laws.seek key_cmp key start cells next_len)) as_seat result
  -- on a well-formed run that the search begins in near enough: the key's place, its item and its link
  pub right : (cells : List LawCell) → IsRun old.held run cells → IsWellFormed key_cmp cells →
      start ≤ laws.place key_cmp key cells → laws.place key_cmp key cells ≤ start + 7 →
      Answers (Found (seat_of_key key cells next_len)) as_seat result
  pub cause : IfErr result (SeekCause old.held run start old.spent.faults new.spent.faults)
  pub costs : Costs old.spent new.spent before after 8 (turns_from start)
  -- on every object: it stops within the run, and turns to at most one block for each tick
  pub within : IfOk result (λ seat. seat.pos ≤ run.len)
  pub each_turn : new.spent.turned + before ≤ old.spent.turned + after
  pub others_stay : (buffer : Buffer) → buffer ≢ Search →
      new.spent.lasts buffer ≡ old.spent.lasts buffer
