-- What a test of a file answers, with the cause of each answer, and what the device has then.
use Rattle.std.specs.Prelude.{◌≡◌, ◌≢◌, ◌⊎◌, ℕ, ◌+◌, ◌*◌, ◌/◌, ◌^◌, ◌≤◌, ◌<◌, true, List, [], ◌∷◌, Option, is_some, Result, Ok, Err, IfSome}
use Rattle.cola_outside.specs.Faults.{Rose}
use Rattle.cola_cell.specs.declared.fault.ReadFault.{ReadFault}
use Rattle.cola_cell.specs.declared.fault.ReadFault.TheVariants as read
use Rattle.cola_cell.specs.Places.{number_of, slot_size}
use Rattle.cola_device.specs.declared.device.Device as device
use Rattle.cola_layout.specs.declared.header.Header.{Header}
use Rattle.cola_layout.specs.declared.marks.Marks.{Marks}
use Rattle.cola_layout.specs.Fields.{fields_of}
use Rattle.cola_layout.specs.Header.{Fields}
use Rattle.cola_opening.specs.Counted.{Spends}
use Rattle.cola_opening.specs.Judged.{IsSmall, IsNoStore, IsClosedWith, IsClosedFile, IsInUse, IsSeen, FailedReading}
use Rattle.cola_verdict.specs.declared.verdict.Flaw.TheVariants.{Cell}
use Rattle.cola_verdict.specs.declared.verdict.Verdict.{Verdict}
use Rattle.cola_verdict.specs.declared.verdict.Verdict.TheVariants.{Broken}
use Rattle.cola_verdict.specs.Tests.{tested_of}
use Rattle.cola_verdict.specs.Verdict.{IsVerdict}
use Rattle.cola_check.specs.declared.fault.CheckFault.{CheckFault}
use Rattle.cola_check.specs.declared.fault.CheckFault.TheVariants.{NotStore, NotClosed, Small, Device, OutOfMemory}

-- a closed file with this header has this verdict
pub record HasVerdict (header : Fields) (verdict : Verdict) (bytes : List ℕ) : Type 0 where
  pub was : IsClosedWith header bytes
  pub verdict_is : IsVerdict (tested_of header bytes) verdict

-- the level in whose slots the cell with this number stands
abbrev pub IsLevelOf : ℕ → ℕ → Type 0
IsLevelOf number found = (level slot index : ℕ) → level ≤ 22 → slot < 2 → index < slot_size level → number ≡ number_of level slot index → found ≡ level

-- the answer of a test by that of its cells: a cell that is bad is the verdict
abbrev pub Judges : Result Verdict ReadFault → Result Verdict CheckFault → Type 0
Judges (Ok verdict) result = result ≡ Ok verdict
Judges (Err (read.BadCell number)) result = (level : ℕ) × ((result ≡ Ok (Broken Cell level number)) × IsLevelOf number level)
Judges (Err read.Device) result = result ≡ Err Device

-- how many ticks the test of a file makes at most, in a store with this lowest level: five for each of its cells
abbrev pub test_ticks : ℕ → ℕ
test_ticks bottom = 5 * 2 ^ (bottom + 4)

-- the cells of both runs of each level
abbrev pub runs_cells : List Marks → ℕ
runs_cells [] = 0
runs_cells (marks ∷ levels) = marks.visible + marks.shadow + runs_cells levels

-- how many blocks the test of a file reads at most, where no read of a cell is refused: ten times those that its runs fill, and
-- forty for each level
abbrev pub test_blocks : Fields → ℕ
test_blocks header = 10 * (runs_cells header.levels / 2 ^ header.block_exp + 4 * (header.bottom + 1))

-- a verdict for which no read of a cell was refused: the bytes are told, or it is another than that a cell is bad
abbrev pub IsSure : Option (List ℕ) → Verdict → Type 0
IsSure told verdict = (is_some told ≡ true) ⊎ ((level number : ℕ) → verdict ≢ Broken Cell level number)

-- how many reads of the device: that of the header, those that load the cells, and one for each tick at most
abbrev pub test_reads : ℕ → ℕ
test_reads bottom = 1 + (bottom + 3) + test_ticks bottom

module _ {D : Type 0} (d : device.Ghosts D) (before now : D) (from to : ℕ) where
  -- a file with this header was read by a test, whole or as far as the device allowed, and nothing was written
  pub record IsReadBy (header : Fields) : Type 0 where
    pub steps_stay : from ≤ to
    pub few_ticks : to ≤ from + test_ticks header.bottom
    pub spends : Spends (d.counts before) (d.counts now) (test_reads header.bottom) 0 1

  -- it was tested: this is its verdict, where its bytes are told, and no fault was met
  pub record IsTested (verdict : Verdict) : Type 0 where
    pub header : Fields
    pub is : IfSome (d.bytes before) (HasVerdict header verdict)
    pub reading : IsReadBy header
    pub few_reads : IsSure (d.bytes before) verdict →
        (d.counts now).reads ≤ (d.counts before).reads + (1 + (header.bottom + 3) + test_blocks header)
    pub no_fault : (d.counts now).faults ≡ (d.counts before).faults

  -- the device failed while the cells were read
  pub record FailedAtCells : Type 0 where
    pub header : Fields
    pub was : IfSome (d.bytes before) (IsClosedWith header)
    pub cause : Rose (d.counts before).faults (d.counts now).faults
    pub reading : IsReadBy header

  -- this was seen of the file, and no cell was read
  pub record IsRefusedFor (why : List ℕ → Type 0) : Type 0 where
    pub seen : IsSeen d before why 1 1 now
    pub no_ticks : to ≡ from

  -- the device failed before the header was read, and no cell was
  pub record FailedAtHeader : Type 0 where
    pub failed : FailedReading d before now
    pub no_ticks : to ≡ from

  -- what a test answers
  abbrev pub Checks : Result Verdict CheckFault → Type 0
  Checks (Ok verdict) = IsTested verdict
  Checks (Err NotStore) = IsRefusedFor IsNoStore
  Checks (Err Small) = IsRefusedFor IsSmall
  Checks (Err NotClosed) = IsRefusedFor IsInUse
  Checks (Err OutOfMemory) = IsRefusedFor IsClosedFile
  Checks (Err Device) = FailedAtHeader ⊎ FailedAtCells

module _ {D : Type 0} (d : device.Ghosts D) (header : Header) (before now : D) where
  -- the verdict on the cells of a file with this header, where its bytes are told
  pub record HasCellsTested (verdict : Verdict) : Type 0 where
    pub verdict_is : IfSome (d.bytes before) (λ bytes. IsVerdict (tested_of (fields_of header) bytes) verdict)
    pub few_reads : IsSure (d.bytes before) verdict →
        (d.counts now).reads ≤ (d.counts before).reads + ((header.geometry.bottom + 3) + test_blocks (fields_of header))
    pub no_fault : (d.counts now).faults ≡ (d.counts before).faults

  -- why the cells of a file were not tested
  abbrev pub TestsAnswer : Result Verdict CheckFault → Type 0
  TestsAnswer (Ok verdict) = HasCellsTested verdict
  TestsAnswer (Err Device) = Rose (d.counts before).faults (d.counts now).faults
  TestsAnswer (Err NotStore) = ⊥
  TestsAnswer (Err Small) = ⊥
  TestsAnswer (Err NotClosed) = ⊥
  TestsAnswer (Err OutOfMemory) = ⊥

module _ {D : Type 0} (d : device.Ghosts D) (header : Header) (before now : D) (from to : ℕ) where
  -- the cells of a file were read: nothing was written, and so many ticks and reads were made at most
  pub record ReadsCells : Type 0 where
    pub steps_stay : from ≤ to
    pub few_ticks : to ≤ from + test_ticks header.geometry.bottom
    pub spends : Spends (d.counts before) (d.counts now) ((header.geometry.bottom + 3) + test_ticks header.geometry.bottom) 0 0

  -- the cells of a file were tested, or there was no memory and nothing was done
  abbrev pub TestsMade : Result Verdict CheckFault → Type 0
  TestsMade result = (TestsAnswer d header before now result × ReadsCells) ⊎ ((result ≡ Err OutOfMemory) × (now ≡ before) × (to ≡ from))
