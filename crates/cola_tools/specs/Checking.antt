-- What a test of a store in lent bytes answers, with the cause of each answer.
use Rattle.std.specs.Prelude.{◌≡◌, ℕ, ◌+◌, ◌≤◌, List, Result, Ok, Err}
use Rattle.cola_layout.specs.Header.{Fields}
use Rattle.cola_opening.specs.Judged.{IsSmall, IsNoStore, IsInUse, IsClosedFile}
use Rattle.cola_verdict.specs.declared.verdict.Verdict.{Verdict}
use Rattle.cola_verdict.specs.declared.verdict.Verdict.TheVariants.{Sound}
use Rattle.cola_check.specs.declared.fault.CheckFault.{CheckFault}
use Rattle.cola_check.specs.declared.fault.CheckFault.TheVariants as fault
use Rattle.cola_check.specs.Check.{HasVerdict, test_ticks}
use Rattle.cola_tools.specs.declared.fault.ToolFault.{ToolFault}
use Rattle.cola_tools.specs.declared.fault.ToolFault.TheVariants.{NotStore, Small, NotClosed, Memory}

module _ (bytes : List ℕ) (from to : ℕ) where
  -- the bytes are those of a closed store with this verdict, by so many accesses of cells at most
  pub record IsJudged (verdict : Verdict) : Type 0 where
    pub header : Fields
    pub judged : HasVerdict header verdict bytes
    pub steps_stay : from ≤ to
    pub few_ticks : to ≤ from + test_ticks header.bottom

  -- the bytes are refused for this reason, and no cell was read
  abbrev pub IsRefused : Type 0 → Type 0
  IsRefused why = why × (to ≡ from)

  -- what a test answers
  abbrev pub Checks : Result Verdict ToolFault → Type 0
  Checks (Ok verdict) = IsJudged verdict
  Checks (Err NotStore) = IsRefused (IsNoStore bytes)
  Checks (Err Small) = IsRefused (IsSmall bytes)
  Checks (Err NotClosed) = IsRefused (IsInUse bytes)
  Checks (Err Memory) = IsRefused (IsClosedFile bytes)
  Checks (Err _) = ⊥

-- the refusal of a test; a device over bytes that are only read does not fail, so that its error has none of its own
abbrev pub refusal : CheckFault → ToolFault
refusal fault.NotStore = NotStore
refusal fault.NotClosed = NotClosed
refusal fault.Small = Small
refusal fault.Device = Small
refusal fault.OutOfMemory = Memory

-- an answer that is this number of keys, or that there was no memory
abbrev pub IsCountOrMemory : ℕ → Result Verdict ToolFault → Type 0
IsCountOrMemory keys (Ok verdict) = verdict ≡ Sound keys
IsCountOrMemory keys (Err why) = why ≡ Memory
