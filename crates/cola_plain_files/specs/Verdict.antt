-- The tests of the levels of a file, by the names that the plain program gives them.
use Rattle.std.specs.Prelude.{◌≡◌, ℕ, [], ◌∷◌}
use Rattle.std.specs.List.{AllByRecursion}
use Rattle.cola_verdict.specs.declared.verdict.Flaw.TheVariants as flaw
use Rattle.cola_verdict.specs.Verdict.{Passes}
use Rattle.cola_plain_files.specs.declared.verdict.verdicts.LevelTest.{LevelTest}
use Rattle.cola_plain_files.specs.declared.verdict.verdicts.LevelTest.TheVariants.{Order, Sample, Length, Shadow, Live}
use Rattle.cola_verdict.specs.Tests.{Tested, OrderAt, SampleAt, LengthAt, ShadowAt, LiveAt, IsFirst, visible_cell}

-- level j of a file passes a test
abbrev pub TestAt : Tested → LevelTest → ℕ → Type 0
TestAt file Order = OrderAt file
TestAt file Sample = SampleAt file
TestAt file Length = LengthAt file
TestAt file Shadow = ShadowAt file
TestAt file Live = LiveAt file

-- level j is the first that fails a test, and this is the first cell of the slot of its visible run
abbrev pub IsFirstAtVisible : Tested → LevelTest → ℕ → ℕ → Type 0
IsFirstAtVisible file test j number = IsFirst file (TestAt file test) j × (number ≡ visible_cell file j)

-- the tests of a file's cells and of its levels are passed
abbrev pub PassLevels : Tested → Type 0
PassLevels file = AllByRecursion (Passes file) (flaw.Cell ∷ flaw.Order ∷ flaw.Sample ∷ flaw.Length ∷ flaw.Shadow ∷ flaw.Live ∷ [])
