-- Where a cursor begins, and what that costs.
use Rattle.std.specs.Prelude.{◌≡◌, ◌⊎◌, ℕ, suc, ◌+◌, ◌*◌, ◌^◌, ◌≤◌, ◌<◌, List, [], ◌∷◌, map, Result, Ok, Err, IfOk, ⊤}
use Rattle.arrayvec.specs.declared.array_vec.ArrayVec.{ArrayVec}
use Rattle.cola_outside.specs.Faults.{Rose}
use Rattle.cola_runs.specs.Search.{stop, link_at, first_len}
use Rattle.cola_cell.specs.declared.cell.Run.{Run}
use Rattle.cola_cell.specs.declared.fault.ReadFault.{ReadFault}
use Rattle.cola_cell.specs.declared.fault.ReadFault.TheVariants.{Device, BadCell}
use Rattle.cola_cell.specs.Held.{Held, LawCell}
use Rattle.cola_cell.specs.Spent.{IsBad}
use Rattle.cola_cell.specs.Order.{key_cmp}
use Rattle.cola_look.specs.Outcome.{Outcome, Found, and_then}
use Rattle.cola_look.specs.Runs.{AreRuns}
use Rattle.cola_look.specs.Seek.{found_in}
use Rattle.cola_cursor.specs.declared.line.Line.{Line}
use Rattle.cola_cursor.specs.declared.cursor.Cursor.{Cursor}
use Rattle.cola_cursor.specs.Lines.{ahead_of, all_left}

-- the level of each run is above that of the run before it, and the first is at least so much
abbrev pub LevelsRise : ℕ → List Run → Type 0
LevelsRise least [] = ⊤
LevelsRise least (run ∷ runs) = (least ≤ run.level) × LevelsRise (suc run.level) runs

-- where the search of each run stops, from the link of the run above
abbrev pub places_from : List ℕ → ℕ → List (List LawCell) → List ℕ
places_from key start [] = []
places_from key start (cells ∷ lists) = stop key_cmp key start cells ∷ places_from key (link_at cells (first_len lists) (stop key_cmp key start cells)) lists

-- the length of the first run, and 0 where there is none
abbrev pub length_of_first : List Run → ℕ
length_of_first [] = 0
length_of_first (run ∷ runs) = run.len

-- the same over an object: where the search of each run stops, as far as the cells are told
abbrev pub places_told : Held → List ℕ → ℕ → List Run → Outcome (List ℕ)
places_told held key start [] = Found []
places_told held key start (run ∷ runs) =
    and_then (found_in held run (length_of_first runs) start key) (λ seat. and_then (places_told held key seat.link runs) (λ places. Found (seat.pos ∷ places)))

-- the places of lines, and how many cells each has still to pass
abbrev pub places_of : ArrayVec Line 23 Unit → List ℕ
places_of lines = map (λ line. line.place) lines.items

abbrev pub aheads_of : ArrayVec Line 23 Unit → List ℕ
aheads_of lines = map ahead_of lines.items

-- the bound on a whole range, in a store with so many levels
abbrev pub range_ticks : ℕ → ℕ
range_ticks levels = 9 * levels + 2 ^ (levels + 2)

-- what a cursor has still to read once it is there; nothing is asked of a refusal
abbrev pub left_sought : Result Cursor ReadFault → ℕ
left_sought (Ok cursor) = all_left cursor.lines.items
left_sought (Err fault) = 0

-- the same of its lines
abbrev pub left_lines : Result (ArrayVec Line 23 Unit) ReadFault → ℕ
left_lines (Ok lines) = all_left lines.items
left_lines (Err fault) = 0

-- on runs that are told to be lists of cells, in order or not, the place of each line is where the search of its run stops
abbrev pub ArePlaced : Held → List Run → List ℕ → Result (ArrayVec Line 23 Unit) ReadFault → Type 0
ArePlaced held runs key result = (lists : List (List LawCell)) → AreRuns held runs lists →
    IfOk result (λ lines. map (λ line. line.place) lines.items ≡ places_from key 0 lists)

-- the cells of the runs
abbrev pub cells_of : List Run → ℕ
cells_of [] = 0
cells_of (run ∷ runs) = run.len + cells_of runs

-- a cell of a run whose bytes spell none, and its number
pub record HasBadIn (held : Held) (run : Run) (number : ℕ) : Type 0 where
  pub index : ℕ
  pub within : index < run.len
  pub bad : IsBad held run.level run.slot index number

-- the same of one of the runs
abbrev pub HasBadRun : Held → ℕ → List Run → Type 0
HasBadRun held number [] = ⊥
HasBadRun held number (run ∷ runs) = HasBadIn held run number ⊎ HasBadRun held number runs

-- the cause of a refused search: the count of faults rose, or a cell of one of the runs is bad
abbrev pub RunsCause : Held → List Run → ℕ → ℕ → ReadFault → Type 0
RunsCause held runs before now Device = Rose before now
RunsCause held runs before now (BadCell number) = HasBadRun held number runs
