-- Lines of a cursor: how a line stands in its run, and how much of it is left.
use Rattle.std.specs.Prelude.{◌≡◌, ℕ, ◌+◌, ◌-◌, ◌≤◌, ◌<◌, List, [], ◌∷◌, Option, None, Some, ⊤, Bool}
use Rattle.cola_outside.specs.Faults.{Rose}
use Rattle.cola_cell.specs.declared.cell.Cell.{Cell}
use Rattle.cola_cell.specs.declared.cell.Run.{Run}
use Rattle.cola_cell.specs.declared.fault.ReadFault.{ReadFault}
use Rattle.cola_cell.specs.declared.fault.ReadFault.TheVariants.{Device, BadCell}
use Rattle.cola_cell.specs.Held.{Held, Told, Tells, as_cell}
use Rattle.cola_cell.specs.Spent.{Buffer, Search, IsBad}
use Rattle.cola_cell.specs.State.{State}
use Rattle.cola_cell.specs.Costs.{Costs}
use Rattle.cola_look.specs.Runs.{HasRun}
use Rattle.cola_cursor.specs.declared.line.Line.{Line}
use Rattle.cola_cursor.specs.Way.{at, spot_at}

-- the head is kept, unless the place is at the end
abbrev pub HeadIsRead : ℕ → ℕ → Option Cell → Type 0
HeadIsRead place len None = place ≡ len
HeadIsRead place len (Some cell) = ⊤

-- a line whose next cell is read, if there is one
abbrev pub IsReady : Line → Type 0
IsReady line = HeadIsRead line.place line.run.len line.head

-- how many heads are kept: one or none
abbrev pub heads_of : Option Cell → ℕ
heads_of None = 0
heads_of (Some cell) = 1

-- how many cells of its run a line has still to read
abbrev pub left_of : Line → ℕ
left_of line = line.run.len - line.place - heads_of line.head

-- how many cells of its run a line has still to pass
abbrev pub ahead_of : Line → ℕ
ahead_of line = line.run.len - line.place

-- the same of all lines
abbrev pub all_left : List Line → ℕ
all_left [] = 0
all_left (line ∷ lines) = left_of line + all_left lines

abbrev pub all_ahead : List Line → ℕ
all_ahead [] = 0
all_ahead (line ∷ lines) = ahead_of line + all_ahead lines

-- a call that reads spends this: each tick turns to at most one block, by the buffer of searches alone
pub record Reading (old new : State) (before after : ℕ) : Type 0 where
  pub costs : Costs old.spent new.spent before after (after - before) (after - before)
  pub others_stay : (buffer : Buffer) → (buffer ≡ Search → ⊥) →
      new.spent.lasts buffer ≡ old.spent.lasts buffer

module _ (falls : Bool) where
  -- a head that is kept is the cell at the place, which is within the run
  abbrev pub HeadFits : Held → Run → ℕ → Option Cell → Type 0
  HeadFits held run place None = ⊤
  HeadFits held run place (Some cell) = (place < run.len) × Tells (spot_at falls held run place) (Told (as_cell cell))

  -- a line over an object: its run is one of the object's, its place is within the run or at its end, and so is its head
  pub record LineFits (held : Held) (line : Line) : Type 0 where
    pub run : HasRun held line.run
    pub place_in : line.place ≤ line.run.len
    pub head : HeadFits held line.run line.place line.head

  -- a cell that a line has still to read whose bytes spell none, and its number
  pub record HasBadAhead (held : Held) (line : Line) (number : ℕ) : Type 0 where
    pub index : ℕ
    pub from : line.place ≤ index
    pub within : index < line.run.len
    pub bad : IsBad held line.run.level line.run.slot (at falls line.run.len index) number

  -- the cause of a refused call on a line: the count of faults rose, or a cell ahead is bad
  abbrev pub LineCause : Held → Line → ℕ → ℕ → ReadFault → Type 0
  LineCause held line before now Device = Rose before now
  LineCause held line before now (BadCell number) = HasBadAhead held line number
