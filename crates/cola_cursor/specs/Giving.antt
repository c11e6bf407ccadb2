-- What the calls of a cursor give: its beginning, and a step, by its answer, and where the cursor and the object stand then.
use Rattle.std.specs.Prelude.{◌≡◌, ℕ, ◌+◌, ◌*◌, ◌≤◌, List, map, length, Option, None, Some, Result, Ok, Err, IfOk, IfErr, OnOk, OnErr, Bool, false}
use Rattle.cola_cell.specs.declared.cell.Run.{Run}
use Rattle.cola_cell.specs.declared.fault.ReadFault.{ReadFault}
use Rattle.cola_cell.specs.declared.source.CellSource as source
use Rattle.cola_cell.specs.Costs.{Costs}
use Rattle.cola_cell.specs.Held.{LawCell, Stamped}
use Rattle.cola_cell.specs.Looks.{OnlyLooks}
use Rattle.cola_cell.specs.Order.{key_cmp}
use Rattle.cola_cell.specs.State.{State}
use Rattle.cola_look.specs.Outcome.{Answers}
use Rattle.cola_look.specs.Runs.{AreRuns}
use Rattle.cola_pairs.specs.Live.{live, between}
use Rattle.cola_cursor.specs.declared.cursor.Cursor.{Cursor}
use Rattle.cola_cursor.specs.declared.line.Line.{Line}
use Rattle.cola_cursor.specs.declared.saved.Saved.{Saved}
use Rattle.cola_cursor.specs.Lines.{all_left, Reading}
use Rattle.cola_cursor.specs.Results.{LinesCause}
use Rattle.cola_cursor.specs.Saving.{cursor_at, lines_left}
use Rattle.cola_cursor.specs.Seeking.{places_from, places_of, places_told, range_ticks, left_sought, RunsCause}
use Rattle.cola_cursor.specs.Standing.{runs_of, AreSearched, Stands, AheadAlong, Ahead, TakesNext, AnswerCause, LinesPassed, IsPassed, none_hidden, answered_key, with_stamp}

-- what the beginning of a cursor gives, over runs and for an interval: where it stands, the cause of a refusal, and what it spent
pub record SeekGives (runs : List Run) (low : List ℕ) (high : Option (List ℕ)) (old new : State) (ticks ticks_now : ℕ) (result : Result Cursor ReadFault) : Type 0 where
  -- on runs as the search of the low key wants them the live pairs of the interval are ahead
  pub ahead : (lists : List (List LawCell)) → AreRuns old.held runs lists → AreSearched low lists →
      IfOk result (λ cursor. Ahead old.held cursor (live key_cmp (between key_cmp low high) lists))
  -- on all told runs, in order or not, each place is where the search of its run stops
  pub places : (lists : List (List LawCell)) → AreRuns old.held runs lists →
      IfOk result (λ cursor. map (λ line. line.place) cursor.lines.items ≡ places_from low 0 lists)
  -- on all objects the same as far as the cells are told: a bad cell that a search needs is answered
  pub exact : Answers (places_told old.held low 0 runs) (λ (cursor : Cursor). places_of cursor.lines) result
  pub begins : IfOk result (λ cursor. (runs_of cursor.lines.items ≡ runs) × (cursor.end ≡ high) × (cursor.falls ≡ false))
  pub stands : IfOk result (Stands new.held)
  pub costs : Costs old.spent new.spent ticks ticks_now (8 * length runs) (2 * length runs)
  pub left : ticks_now + left_sought result ≤ ticks + range_ticks old.held.fixed.levels
  pub reading : Reading old new ticks ticks_now
  pub cause : IfErr result (RunsCause old.held runs old.spent.faults new.spent.faults)

module _ (falls : Bool) where
  module _ {W : Type 0} (w : source.Ghosts W) (before now : W) (old new : Cursor) (ticks ticks_now : ℕ) where
    -- what a step gives: the object, the cursor and the ticks before and after it, and the answer, with the stamp of its pair
    pub record NextGives (result : Result (Option (List ℕ × List ℕ × ℕ)) ReadFault) : Type 0 where
      -- the pair is the first of those ahead, and the others are ahead then; none comes where there is none
      pub takes : (pairs : List (List ℕ × Stamped)) → AheadAlong falls (w.state before).held old pairs →
          TakesNext (Ahead (w.state now).held new) pairs result
      -- on all runs, in order or not: where none comes, that a pair is a value that was passed, and which cells are passed
      pub answers : IfOk result (λ answer. AnswerCause falls new (answered_key answer))
      pub pair : IfOk result (IsPassed falls (w.state before).held old.lines.items new.lines.items)
      pub passes : IfOk result (λ answer.
          LinesPassed falls (w.state before).held (answered_key answer) none_hidden old.lines.items new.lines.items)
      pub stands : Stands (w.state now).held new
      pub end_stays : new.end ≡ old.end
      pub way_stays : new.falls ≡ old.falls
      pub refused : OnErr result (new ≡ old)
      pub left : OnOk result (ticks_now + all_left new.lines.items ≤ ticks + all_left old.lines.items)
      pub at_most : ticks_now ≤ ticks + all_left old.lines.items
      pub reading : Reading (w.state before) (w.state now) ticks ticks_now
      pub cause : IfErr result (LinesCause falls (w.state before).held old.lines.items
          (w.state before).spent.faults (w.state now).spent.faults)
      pub looks : OnlyLooks w before now result

    -- the same of an answer without the stamp: with some stamp a step gives it
    pub record NextGivesPair (result : Result (Option (List ℕ × List ℕ)) ReadFault) : Type 0 where
      pub stamp : ℕ
      pub gives : NextGives (with_stamp stamp result)

  -- a step on lines up to an end, of which these are saved: what the cursor at them gives, where after a refusal the saved ones are put back
  abbrev pub LinesGive : {W : Type 0} → source.Ghosts W → (before now : W) → Option (List ℕ) → (old new : List Line) → List Saved →
      (ticks ticks_now : ℕ) → Result (Option (List ℕ × List ℕ × ℕ)) ReadFault → Type 0
  LinesGive w before now end old new saved ticks ticks_now result =
      NextGives w before now (cursor_at old end falls) (cursor_at (lines_left result saved new) end falls) ticks ticks_now result

  -- a step on one line alone, up to an end: what the cursor at the lines gives; none says that it is no such step, and that nothing changed
  abbrev pub OneGives : {W : Type 0} → source.Ghosts W → (before now : W) → Option (List ℕ) → (old new : List Line) →
      (ticks ticks_now : ℕ) → Result (Option (List ℕ × List ℕ × ℕ)) ReadFault → Type 0
  OneGives w before now end old new ticks ticks_now (Ok None) = (now ≡ before) × (new ≡ old) × (ticks_now ≡ ticks)
  OneGives w before now end old new ticks ticks_now (Ok (Some pair)) =
      NextGives w before now (cursor_at old end falls) (cursor_at new end falls) ticks ticks_now (Ok (Some pair))
  OneGives w before now end old new ticks ticks_now (Err fault) =
      NextGives w before now (cursor_at old end falls) (cursor_at new end falls) ticks ticks_now (Err fault)
