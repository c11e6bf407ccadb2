-- The cells of a file as the plain program reads them, slot by slot.
use Rattle.std.specs.Prelude.{◌≡◌, ℕ, ◌<◌, List, length, Option, None, slice_index_or}
use Rattle.cola_cell.specs.declared.cell.Cell.{Cell}
use Rattle.cola_cell.specs.Flat.{spot_of}
use Rattle.cola_cell.specs.Held.{Bad}
use Rattle.cola_cell.specs.Places.{number_of}
use Rattle.cola_layout.specs.Cells.{slot_cells}
use Rattle.cola_laws.specs.Slots.{level_of}
use Rattle.cola_clock.specs.Marks.{marks_at}
use Rattle.cola_layout.specs.declared.header.Header.{Header}
use Rattle.cola_layout.specs.Fields.{fields_of}
use Rattle.cola_cell.specs.ToldCells.{IsTold}
use Rattle.cola_verdict.specs.Tests.{Tested, tested_of, FileLevel, run_len}

-- the file with this header and these bytes
unfoldable pub file_of : Header → List ℕ → Tested
file_of header bytes = tested_of (fields_of header) bytes

-- a cell is told of each place of the run in a slot of a level
abbrev pub IsSlotTold : Tested → ℕ → ℕ → Type 0
IsSlotTold file level slot = (index : ℕ) → index < run_len file level slot → IsTold (file.spots level slot index)

-- the first place of the run in a slot that is bad
pub record IsFirstBad (file : Tested) (level slot index : ℕ) : Type 0 where
  pub within : index < run_len file level slot
  pub bad : file.spots level slot index ≡ Bad
  pub before : (i : ℕ) → i < index → IsTold (file.spots level slot i)

-- a cell is told of each place of the runs of a level
abbrev pub IsLevelTold : Tested → ℕ → Type 0
IsLevelTold file level = (slot : ℕ) → slot < 2 → IsSlotTold file level slot

-- the lowest bad cell of a level, by its number
pub record IsLowestOfLevel (file : Tested) (level number : ℕ) : Type 0 where
  pub slot : ℕ
  pub index : ℕ
  pub slot_in : slot < 2
  pub within : index < run_len file level slot
  pub bad : file.spots level slot index ≡ Bad
  pub number_is : number ≡ number_of level slot index
  pub lowest : (s i : ℕ) → s < 2 → i < run_len file level s → number_of level s i < number → IsTold (file.spots level s i)

-- level j of a file
abbrev pub level_in : Tested → ℕ → FileLevel
level_in file j = level_of (slot_cells file.spots) file.clock j (marks_at file.marks j)

-- a cell was found in each place
abbrev pub AllFound : List (Option Cell) → Type 0
AllFound found = (i : ℕ) → i < length found → IsTold (spot_of (slice_index_or found i None))

-- the first place in which none was found
pub record IsFirstNone (found : List (Option Cell)) (index : ℕ) : Type 0 where
  pub within : index < length found
  pub bad : spot_of (slice_index_or found index None) ≡ Bad
  pub before : (i : ℕ) → i < index → IsTold (spot_of (slice_index_or found i None))

-- a cell is told of each of so many places of a slot
abbrev pub ArePlacesTold : Tested → ℕ → ℕ → ℕ → Type 0
ArePlacesTold file level slot len = (index : ℕ) → index < len → IsTold (file.spots level slot index)
