-- Which cells of the runs of a file are bad, and how many cells a pass over all runs reads.
use Rattle.std.specs.Prelude.{◌≡◌, ℕ, zero, suc, ◌+◌, ◌<◌, ◌≤◌, false, Option, Some, None}
use Rattle.cola_cell.specs.declared.cell.Run.{Run}
use Rattle.cola_cell.specs.Held.{Held, Bad, IsTelling, is_untold}
use Rattle.cola_cell.specs.Places.{number_of}
use Rattle.cola_cell.specs.Spent.{IsBad}
use Rattle.cola_cell.specs.ToldCells.{IsTold, AreTold}
use Rattle.cola_layout.specs.declared.header.Header.{Header}
use Rattle.cola_verdict.specs.Tests.{AreCellsTold, IsLowestBad}
use Rattle.cola_check.specs.Found.{tested_by, run_in}
use Rattle.cola_check.specs.Reading.{IsRunTold, HasBadIn}

-- what a read of one place of a run found: a cell, where the place is told; or that it is bad, and its number
abbrev pub FindsOne : Held → Run → ℕ → Option ℕ → Type 0
FindsOne held run index None = is_untold (held.spots run.level run.slot index) ≡ false → IsTold (held.spots run.level run.slot index)
FindsOne held run index (Some number) = IsBad held run.level run.slot index number

-- the first bad cell of a run, by its number
pub record IsFirstBad (held : Held) (run : Run) (number : ℕ) : Type 0 where
  pub index : ℕ
  pub within : index < run.len
  pub bad : held.spots run.level run.slot index ≡ Bad
  pub number_is : number ≡ number_of run.level run.slot index
  pub before : AreTold (held.spots run.level run.slot) index

-- what a pass over the cells of a run found: none that is bad, or a bad one by its number, which is the first where all is told
abbrev pub FindsIn : Held → Run → Option ℕ → Type 0
FindsIn held run None = IsTelling held → IsRunTold held run
FindsIn held run (Some number) = HasBadIn held run number × (IsTelling held → IsFirstBad held run number)

-- a bad cell of a run of a level
pub record HasBadAt (header : Header) (held : Held) (level number : ℕ) : Type 0 where
  pub slot : ℕ
  pub slot_in : slot < 2
  pub bad : HasBadIn held (run_in header level slot) number

-- both runs of a level are told
abbrev pub AreRunsTold : Header → Held → ℕ → Type 0
AreRunsTold header held level = (slot : ℕ) → slot < 2 → IsRunTold held (run_in header level slot)

-- the first bad cell of the runs of a level, that in slot 0 before that in slot 1
pub record IsFirstAt (header : Header) (held : Held) (level number : ℕ) : Type 0 where
  pub slot : ℕ
  pub slot_in : slot < 2
  pub first : IsFirstBad held (run_in header level slot) number
  pub before : (s : ℕ) → s < slot → IsRunTold held (run_in header level s)

-- what a pass over the runs of a level found
abbrev pub FindsAt : Header → Held → ℕ → Option ℕ → Type 0
FindsAt header held level None = IsTelling held → AreRunsTold header held level
FindsAt header held level (Some number) = HasBadAt header held level number × (IsTelling held → IsFirstAt header held level number)

-- what a pass over all runs of a file found: none that is bad, or a bad one by its level and its number, which is the lowest
-- where all is told
abbrev pub FindsCell : Header → Held → Option (ℕ × ℕ) → Type 0
FindsCell header held None = IsTelling held → AreCellsTold (tested_by header held)
FindsCell header held (Some found) =
    (found.0 ≤ header.geometry.bottom) × HasBadAt header held found.0 found.1 × (IsTelling held → IsLowestBad (tested_by header held) found.0 found.1)

-- the cells of both runs of a level
abbrev pub level_cells : Header → ℕ → ℕ
level_cells header level = (run_in header level 0).len + (run_in header level 1).len

-- the cells of all runs of the levels above one
abbrev pub cells_above : Header → ℕ → ℕ
cells_above header zero = 0
cells_above header (suc level) = cells_above header level + level_cells header level

-- the cells of all runs of a file
abbrev pub all_cells : Header → ℕ
all_cells header = cells_above header (header.geometry.bottom + 1)
