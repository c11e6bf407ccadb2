-- How the test of a file ends: its line, its status, and what it leaves.
use Rattle.std.specs.Prelude.{◌≡◌, ℕ, List, ◌++◌, codes, decimal, Result, Ok, Err}
use Rattle.cola_check.specs.declared.fault.CheckFault.{CheckFault}
use Rattle.cola_check.specs.declared.fault.CheckFault.TheVariants.{NotStore, NotClosed, Small, Device, OutOfMemory}
use Rattle.cola_check.specs.Check.{Checks}
use Rattle.cola_device.specs.declared.device.Device as device
use Rattle.cola_io.specs.declared.sink.Sink as sink
use Rattle.cola_report.specs.Line.{LineEnds}
use Rattle.cola_spec.specs.Reply.{line}
use Rattle.cola_verdict.specs.declared.verdict.Flaw.{Flaw}
use Rattle.cola_verdict.specs.declared.verdict.Flaw.TheVariants as flaw
use Rattle.cola_verdict.specs.declared.verdict.Verdict.{Verdict}
use Rattle.cola_verdict.specs.declared.verdict.Verdict.TheVariants.{Sound, Broken}

-- the word of a flaw
abbrev pub flaw_word : Flaw → List ℕ
flaw_word flaw.Cell = codes "cell"
flaw_word flaw.Order = codes "order"
flaw_word flaw.Sample = codes "sample"
flaw_word flaw.Length = codes "length"
flaw_word flaw.Shadow = codes "shadow"
flaw_word flaw.Live = codes "live"
flaw_word flaw.Count = codes "count"
flaw_word flaw.Stamp = codes "stamp"

-- the line of a verdict: its keys, or its flaw with the level and the cell
abbrev pub verdict_line : Verdict → List ℕ
verdict_line (Sound keys) = line (codes "sound " ++ decimal keys)
verdict_line (Broken why level cell) = line (codes "broken " ++ flaw_word why ++ codes " " ++ decimal level ++ codes " " ++ decimal cell)

-- the status of a verdict whose line was written whole
abbrev pub verdict_status : Verdict → ℕ
verdict_status (Sound keys) = 0
verdict_status (Broken why level cell) = 13

-- the status of a file that has no verdict
abbrev pub check_status : CheckFault → ℕ
check_status NotStore = 6
check_status NotClosed = 7
check_status Small = 6
check_status Device = 5
check_status OutOfMemory = 1

-- what is written of a test: the line of its verdict, or nothing where there is none
abbrev pub Tells : {K : Type 0} → sink.Ghosts K → Result Verdict CheckFault → K → K → ℕ → Type 0
Tells h (Ok verdict) sink sink' status = LineEnds h (verdict_line verdict) (verdict_status verdict) sink sink' status
Tells h (Err fault) sink sink' status = (status ≡ check_status fault) × (sink' ≡ sink)

-- how the test of a file ends: with the line of its verdict, or with none, and then nothing is written
pub data CheckEnds {K D : Type 0} (h : sink.Ghosts K) (d : device.Ghosts D) (device device' : D) (sink sink' : K)
    (steps steps' status : ℕ) : Type 0 where
  Judged : (verdict : Verdict) → Checks d device device' steps steps' (Ok verdict)
      → LineEnds h (verdict_line verdict) (verdict_status verdict) sink sink' status → CheckEnds h d device device' sink sink' steps steps' status
  NotJudged : (fault : CheckFault) → status ≡ check_status fault → Checks d device device' steps steps' (Err fault)
      → sink' ≡ sink → CheckEnds h d device device' sink sink' steps steps' status
