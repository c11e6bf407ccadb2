-- Which cells of a file are cells of runs, by its header.
use Rattle.std.specs.Prelude.{ℕ, ◌+◌, ◌-◌, ◌<◌, ◌≤◌, ◌⊎◌}
use Rattle.cola_cell.specs.Places.{number_of}
use Rattle.cola_clock.specs.Clock.{visible_slot}
use Rattle.cola_layout.specs.Header.{Fields}
use Rattle.cola_layout.specs.Marks.{marks_of}

-- the number is one of so many from a first one on
abbrev pub IsAmong : ℕ → ℕ → ℕ → Type 0
IsAmong number first count = (first ≤ number) × (number < first + count)

-- the cell with this number is one of the visible run of a level, or of its shadow
abbrev pub IsOfLevel : Fields → ℕ → ℕ → Type 0
IsOfLevel header level number =
    IsAmong number (number_of level (visible_slot header.clock level) 0) (marks_of header.levels level).visible
    ⊎ IsAmong number (number_of level (1 - visible_slot header.clock level) 0) (marks_of header.levels level).shadow

-- the cell with this number is one of a run
abbrev pub IsOfRun : Fields → ℕ → Type 0
IsOfRun header number = (level : ℕ) × ((level ≤ header.bottom) × IsOfLevel header level number)
