-- A cursor that falls: its lines from those of a rising one at the same places, and what its beginning gives.
use Rattle.std.specs.Prelude.{◌≡◌, ℕ, ◌+◌, ◌-◌, ◌*◌, ◌^◌, ◌≤◌, ◌&&◌, ◌++◌, Bool, true, cond, List, [], ◌∷◌, length, map, reverse, Option, None, Some, Result, IfOk, IfErr, IsOk}
use Rattle.std.specs.declared.ops.Bound.{Bound}
use Rattle.std.specs.declared.ops.Bound.TheVariants.{Included, Excluded, Unbounded}
use Rattle.std.specs.List.{AllByRecursion}
use Rattle.cola_runs.specs.Cells.{IsRising}
use Rattle.cola_cell.specs.declared.cell.Run.{Run}
use Rattle.cola_cell.specs.declared.fault.ReadFault.{ReadFault}
use Rattle.cola_cell.specs.Costs.{Costs}
use Rattle.cola_cell.specs.Held.{Held, LawCell}
use Rattle.cola_cell.specs.Order.{key_cmp}
use Rattle.cola_cell.specs.State.{State}
use Rattle.cola_look.specs.Outcome.{Outcome, Found, Answers}
use Rattle.cola_look.specs.Runs.{AreRuns}
use Rattle.cola_pairs.specs.Live.{live, below_end}
use Rattle.cola_reverse.specs.Falling.{from_low, within_bounds}
use Rattle.cola_cursor.specs.declared.cursor.Cursor.{Cursor}
use Rattle.cola_cursor.specs.declared.line.Line.{Line}
use Rattle.cola_cursor.specs.Lines.{Reading, all_left, ahead_of}
use Rattle.cola_cursor.specs.Seeking.{places_from, places_told, aheads_of, range_ticks, left_sought, RunsCause}
use Rattle.cola_cursor.specs.Standing.{runs_of, AreSearched, Stands, Ahead}

-- a line in a run at an index, whose next cell is not read
abbrev pub line_at : Run → ℕ → Line
line_at run place = record { run = run; place = place; head = None }

-- a line that goes back from where it stands: as many cells come as were before its place, and its next cell is not read
abbrev pub turned_line : Line → Line
turned_line line = line_at line.run (line.run.len - line.place)

-- a line that goes back from the end of its run
abbrev pub end_line : Run → Line
end_line run = line_at run 0

-- the least string of bytes above a key: the key with a zero byte behind it
abbrev pub over_key : List ℕ → List ℕ
over_key key = key ++ 0 ∷ []

-- the string whose place a search looks for: a key, or the least string above it
abbrev pub sought : Bool → List ℕ → List ℕ
sought over key = cond over (over_key key) key

-- what a falling cursor below a string of bytes gives
pub record TurnedGives (runs : List Run) (low : Option (List ℕ)) (key : List ℕ) (old new : State) (ticks ticks_now : ℕ) (result : Result Cursor ReadFault) : Type 0 where
  pub ahead : (lists : List (List LawCell)) → AreRuns old.held runs lists → AreSearched key lists →
      IfOk result (λ cursor. Ahead old.held cursor
      (reverse (live key_cmp (λ k. from_low key_cmp low k && below_end key_cmp (Some key) k) lists)))
  pub places : (lists : List (List LawCell)) → AreRuns old.held runs lists →
      IfOk result (λ cursor. map ahead_of cursor.lines.items ≡ places_from key 0 lists)
  pub exact : Answers (places_told old.held key 0 runs) (λ (cursor : Cursor). aheads_of cursor.lines) result
  pub begins : IfOk result (λ cursor. (runs_of cursor.lines.items ≡ runs) × (cursor.end ≡ low) × (cursor.falls ≡ true))
  pub stands : IfOk result (Stands new.held)
  pub costs : Costs old.spent new.spent ticks ticks_now (8 * length runs) (2 * length runs)
  pub left : ticks_now + left_sought result ≤ ticks + range_ticks old.held.fixed.levels
  pub reading : Reading old new ticks ticks_now
  pub cause : IfErr result (RunsCause old.held runs old.spent.faults new.spent.faults)

-- what a falling cursor at the end has ahead: on runs in order the live pairs from its lower end on, from the last on
pub record EndGives (held : Held) (runs : List Run) (low : Option (List ℕ)) (cursor : Cursor) : Type 0 where
  pub ahead : (lists : List (List LawCell)) → AreRuns held runs lists → AllByRecursion (IsRising key_cmp) lists →
      Ahead held cursor (reverse (live key_cmp (within_bounds key_cmp low Unbounded) lists))
  pub places : (lists : List (List LawCell)) → AreRuns held runs lists → map ahead_of cursor.lines.items ≡ map length lists
  pub exact : aheads_of cursor.lines ≡ map (λ run. run.len) runs
  pub begins : (runs_of cursor.lines.items ≡ runs) × (cursor.end ≡ low) × (cursor.falls ≡ true)
  pub stands : Stands held cursor
  pub left : all_left cursor.lines.items ≤ 2 ^ (held.fixed.levels + 2)

-- runs as the beginning at an upper bound wants them: as the search of the bound wants them, and in order where there is none
abbrev pub AreSearchedTo : Bound (List ℕ) → List (List LawCell) → Type 0
AreSearchedTo (Included high) lists = AreSearched (over_key high) lists
AreSearchedTo (Excluded high) lists = AreSearched high lists
AreSearchedTo Unbounded lists = AllByRecursion (IsRising key_cmp) lists

-- how many cells of each run stand up to an upper bound: those before the place where its search stops, and all where there is none
abbrev pub places_to : Bound (List ℕ) → List (List LawCell) → List ℕ
places_to (Included high) lists = places_from (over_key high) 0 lists
places_to (Excluded high) lists = places_from high 0 lists
places_to Unbounded lists = map length lists

-- the same over an object, as far as its cells are told
abbrev pub places_told_to : Held → Bound (List ℕ) → List Run → Outcome (List ℕ)
places_told_to held (Included high) runs = places_told held (over_key high) 0 runs
places_told_to held (Excluded high) runs = places_told held high 0 runs
places_told_to held Unbounded runs = Found (map (λ run. run.len) runs)

-- what the beginning of a falling cursor gives, over runs and for an interval: where it stands, the cause of a refusal, and what it spent
pub record SeekBackGives (runs : List Run) (low : Option (List ℕ)) (high : Bound (List ℕ)) (old new : State) (ticks ticks_now : ℕ) (result : Result Cursor ReadFault) : Type 0 where
  -- on runs as the bound wants them the live pairs of the interval are ahead, from the last on
  pub ahead : (lists : List (List LawCell)) → AreRuns old.held runs lists → AreSearchedTo high lists →
      IfOk result (λ cursor. Ahead old.held cursor
      (reverse (live key_cmp (within_bounds key_cmp low high) lists)))
  -- on all told runs, in order or not, the cells ahead in each are those up to the bound
  pub places : (lists : List (List LawCell)) → AreRuns old.held runs lists →
      IfOk result (λ cursor. map ahead_of cursor.lines.items ≡ places_to high lists)
  -- on all objects the same as far as the cells are told: a bad cell that a search needs is answered
  pub exact : Answers (places_told_to old.held high runs) (λ (cursor : Cursor). aheads_of cursor.lines) result
  pub begins : IfOk result (λ cursor. (runs_of cursor.lines.items ≡ runs) × (cursor.end ≡ low) × (cursor.falls ≡ true))
  pub stands : IfOk result (Stands new.held)
  pub costs : Costs old.spent new.spent ticks ticks_now (8 * length runs) (2 * length runs)
  pub left : ticks_now + left_sought result ≤ ticks + range_ticks old.held.fixed.levels
  -- at the end nothing is read
  pub unread : high ≡ Unbounded → IsOk result × (new ≡ old) × (ticks_now ≡ ticks)
  pub reading : Reading old new ticks ticks_now
  pub cause : IfErr result (RunsCause old.held runs old.spent.faults new.spent.faults)
