-- The same tested file with other cells, and when the cells of its runs stay.
use Rattle.std.specs.Prelude.{◌≡◌, ℕ}
use Rattle.cola_cell.specs.Held.{Spots}
use Rattle.cola_verdict.specs.Tests.{Tested, IsOfRun}

-- a file that is told otherwise, with the same header
abbrev pub told_by : Tested → Spots → Tested
told_by file spots = record file { spots = spots }

-- each place of the runs is told alike
abbrev pub AreCellsAlike : Tested → Spots → Type 0
AreCellsAlike file spots = (level slot index : ℕ) → IsOfRun file level slot index → spots level slot index ≡ file.spots level slot index
