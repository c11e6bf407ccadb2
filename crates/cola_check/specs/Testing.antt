-- What the tests of the cells of an object answer, one after another.
use Rattle.std.specs.Prelude.{◌≡◌, ℕ, ◌+◌, ◌*◌, ◌^◌, List, Option, Some, None, Result, Ok, Err, IfErr}
use Rattle.std.specs.List.{AllByRecursion}
use Rattle.cola_outside.specs.Faults.{Rose}
use Rattle.cola_cell.specs.declared.fault.ReadFault.{ReadFault}
use Rattle.cola_cell.specs.declared.fault.ReadFault.TheVariants.{Device, BadCell}
use Rattle.cola_cell.specs.Costs.{Costs}
use Rattle.cola_cell.specs.Held.{Held, IsTelling}
use Rattle.cola_cell.specs.State.{State}
use Rattle.cola_layout.specs.declared.header.Header.{Header}
use Rattle.cola_verdict.specs.declared.verdict.Flaw.{Flaw}
use Rattle.cola_verdict.specs.declared.verdict.Verdict.{Verdict}
use Rattle.cola_verdict.specs.Tests.{Tested, AreCellsTold}
use Rattle.cola_verdict.specs.Verdict.{Passes, IsVerdict}
use Rattle.cola_check.specs.Found.{tested_by}

-- an object has the levels of a header
abbrev pub HasLevels : Header → Held → Type 0
HasLevels header held = held.fixed.levels ≡ header.geometry.bottom + 1

-- what some of the tests found, where the file passes those before them: it passes these too, or this is the verdict
abbrev pub FindsFlaw : Tested → List Flaw → List Flaw → Option Verdict → Type 0
FindsFlaw file before these None = AllByRecursion (Passes file) before → AllByRecursion (Passes file) these
FindsFlaw file before these (Some verdict) = AllByRecursion (Passes file) before → IsVerdict file verdict

-- what the last of the tests found, where the file passes those before them: the verdict
abbrev pub FindsVerdict : Tested → List Flaw → Verdict → Type 0
FindsVerdict file before verdict = AllByRecursion (Passes file) before → IsVerdict file verdict

-- how many ticks the tests make at most, in a store with this lowest level: those of the visible runs, of the shadows, and of
-- the live keys
abbrev pub visible_ticks : ℕ → ℕ
visible_ticks bottom = 5 * 2 ^ (bottom + 1)

abbrev pub shadow_ticks : ℕ → ℕ
shadow_ticks bottom = 18 * 2 ^ (bottom + 1)

abbrev pub live_ticks : ℕ → ℕ
live_ticks bottom = 2 ^ (bottom + 4)

-- those of the shadows and the live keys, and with them those of the visible runs
abbrev pub rest_ticks : ℕ → ℕ
rest_ticks bottom = shadow_ticks bottom + live_ticks bottom

abbrev pub run_ticks : ℕ → ℕ
run_ticks bottom = visible_ticks bottom + rest_ticks bottom

-- why tests were refused: the count of faults rose, or a cell is bad, of a file whose cells are not told
abbrev pub TestCause : Header → Held → ℕ → ℕ → ReadFault → Type 0
TestCause header held before now Device = Rose before now
TestCause header held before now (BadCell number) = AreCellsTold (tested_by header held) → ⊥

-- a test of an object with the levels of a header, which makes at most so many ticks, and turns to at most one block in each;
-- and why it is refused
pub record ReadsFile {A : Type 0} (header : Header) (old new : State) (from to ticks : ℕ) (result : Result A ReadFault) : Type 0 where
  pub cause : IfErr result (TestCause header old.held old.spent.faults new.spent.faults)
  pub cost : Costs old.spent new.spent from to ticks ticks

-- the verdict, where the object tells its cells; or the device failed. A cell that is bad at a second reading, and was not at
-- the first, is none that is told
abbrev pub Tests : Header → State → State → Result Verdict ReadFault → Type 0
Tests header old new (Ok verdict) = IsTelling old.held → IsVerdict (tested_by header old.held) verdict
Tests header old new (Err Device) = Rose old.spent.faults new.spent.faults
Tests header old new (Err (BadCell number)) = IsTelling old.held → ⊥
