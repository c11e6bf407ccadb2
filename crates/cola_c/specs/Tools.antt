-- What the calls by C on whole stores tell, and the numbers of their answers beside those of open stores.
use Rattle.std.specs.Prelude.{◌≡◌, ◌⊎◌, ℕ, ℤ, pos, List, Result, Ok, Err, IsSome}
use Rattle.std.specs.Result.{result_unwrap_or}
use Rattle.cola_mapped.specs.declared.region.Region.{Region}
use Rattle.cola_mapped.specs.Region.{bytes_in}
use Rattle.cola_layout.specs.declared.geometry.Geometry.{Geometry}
use Rattle.cola_spec.specs.Map.{Map}
use Rattle.cola_verdict.specs.declared.verdict.Flaw.{Flaw}
use Rattle.cola_verdict.specs.declared.verdict.Flaw.TheVariants as flaw
use Rattle.cola_verdict.specs.declared.verdict.Verdict.{Verdict}
use Rattle.cola_verdict.specs.declared.verdict.Verdict.TheVariants.{Sound, Broken}
use Rattle.cola_handle.specs.declared.answer.Answer.TheVariants as answer
use Rattle.cola_handle.specs.Numbers.{number}
use Rattle.cola_tools.specs.declared.fault.ToolFault.{ToolFault}
use Rattle.cola_tools.specs.declared.fault.ToolFault.TheVariants.{Small, NotStore, NotClosed, Memory, Options, NotEmpty, BadCell, Fewer, Length, Full, Order}
use Rattle.cola_tools.specs.Checking.{Checks}
use Rattle.cola_tools.specs.Growing.{Grows, HasNoHeader, StandsIn}
use Rattle.cola_c.specs.declared.tools.Found.{Found}

-- the number of a refusal: that of the same answer of an open store; 19 a row out of order, 20 fewer keys than there are rows
abbrev pub fault_number : ToolFault → ℕ
fault_number Small = number answer.Small
fault_number NotStore = number answer.NotStore
fault_number NotClosed = number answer.NotClosed
fault_number Memory = number answer.Memory
fault_number Options = number answer.Options
fault_number NotEmpty = number answer.NotEmpty
fault_number BadCell = number answer.BadCell
fault_number Length = number answer.Length
fault_number Full = number answer.Full
fault_number Order = 19
fault_number Fewer = 20

-- the number of a flaw, by the order of the tests
abbrev pub flaw_number : Flaw → ℕ
flaw_number flaw.Cell = 1
flaw_number flaw.Order = 2
flaw_number flaw.Sample = 3
flaw_number flaw.Length = 4
flaw_number flaw.Shadow = 5
flaw_number flaw.Live = 6
flaw_number flaw.Count = 7
flaw_number flaw.Stamp = 8

-- the number of a verdict: 21 where there is a flaw
abbrev pub verdict_number : Verdict → ℕ
verdict_number (Sound keys) = number answer.Done
verdict_number (Broken why level cell) = 21

-- a verdict, as C gets it
abbrev pub found_of : Verdict → Found
found_of (Sound keys) = record { keys = keys; cell = 0; flaw = 0; level = 0 }
found_of (Broken why level cell) = record { keys = 0; cell = cell; flaw = flaw_number why; level = level }

-- what a test tells: its verdict, and nothing where it is refused
abbrev pub told_of : Result Verdict ToolFault → Found → Found
told_of (Ok verdict) before = found_of verdict
told_of (Err why) before = before

abbrev pub check_number : Result Verdict ToolFault → ℕ
check_number (Ok verdict) = verdict_number verdict
check_number (Err why) = fault_number why

-- a test of bytes, as C gets it
pub record TellsCheck (bytes : List ℕ) (before now : Found) (code : ℤ) : Type 0 where
  pub answer : Result Verdict ToolFault
  pub from : ℕ
  pub to : ℕ
  pub checks : Checks bytes from to answer
  pub number_is : code ≡ pos (check_number answer)
  pub told_is : now ≡ told_of answer before

abbrev pub grow_number : Result ℕ ToolFault → ℕ
grow_number (Ok count) = number answer.Done
grow_number (Err why) = fault_number why

-- a copy into a region, as C gets it: the region is where it was
pub record TellsGrow (keys block : ℕ) (from : List ℕ) (before now : Region) (count count' : ℕ) (code : ℤ) : Type 0 where
  pub answer : Result ℕ ToolFault
  pub ticks : ℕ
  pub ticks_now : ℕ
  pub grows : Grows keys block from (bytes_in before.bytes) (bytes_in now.bytes) ticks ticks_now answer
  pub number_is : code ≡ pos (grow_number answer)
  pub told_is : count' ≡ result_unwrap_or answer count
  pub lent : IsSome now.bytes
  pub at_stays : now.at ≡ before.at
  pub len_stays : now.len ≡ before.len

-- the region has the store of this map, for so many keys, with such blocks: in its first bytes, and in all where there are no more
abbrev pub HasMap : (keys block : ℕ) → Map → Region → Type 0
HasMap keys block m region = (geometry : Geometry) × ((geometry.keys ≡ keys) × ((geometry.block_exp ≡ block) × StandsIn geometry m (bytes_in region.bytes)))

-- the region has the bytes that it had, or no store's header
abbrev pub IsLeftBlank : Region → Region → Type 0
IsLeftBlank before now = (bytes_in now.bytes ≡ bytes_in before.bytes) ⊎ HasNoHeader (bytes_in now.bytes)
