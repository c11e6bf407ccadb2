-- How the test of a file ends, said once more in plain terms: by the status, with the text of each line.
use Rattle.std.specs.Prelude.{◌≡◌, ◌⊎◌, ℕ, List, ◌++◌, codes, decimal, Result, Ok, Err}
use Rattle.cola_check.specs.declared.fault.CheckFault.{CheckFault}
use Rattle.cola_check.specs.declared.fault.CheckFault.TheVariants as check
use Rattle.cola_check.specs.Check.{Checks}
use Rattle.cola_device.specs.declared.device.Device as device
use Rattle.cola_io.specs.declared.sink.Sink as sink
use Rattle.cola_report.specs.Laws.{WroteWhole, WroteSome}
use Rattle.cola_spec.specs.Reply.{line}
use Rattle.cola_verdict.specs.declared.verdict.Flaw.{Flaw}
use Rattle.cola_verdict.specs.declared.verdict.Flaw.TheVariants as flaw
use Rattle.cola_verdict.specs.declared.verdict.Verdict.{Verdict}
use Rattle.cola_verdict.specs.declared.verdict.Verdict.TheVariants.{Sound, Broken}

-- a flaw has this word in a line
abbrev pub IsCalled : Flaw → List ℕ → Type 0
IsCalled flaw.Cell word = word ≡ codes "cell"
IsCalled flaw.Order word = word ≡ codes "order"
IsCalled flaw.Sample word = word ≡ codes "sample"
IsCalled flaw.Length word = word ≡ codes "length"
IsCalled flaw.Shadow word = word ≡ codes "shadow"
IsCalled flaw.Live word = word ≡ codes "live"
IsCalled flaw.Count word = word ≡ codes "count"
IsCalled flaw.Stamp word = word ≡ codes "stamp"

module _ {K D : Type 0} (h : sink.Ghosts K) (d : device.Ghosts D) (device device' : D) (sink sink' : K) (steps steps' : ℕ) where
  -- the test answered so; it gave no verdict, for this reason, and nothing was written
  abbrev pub Answered : Result Verdict CheckFault → Type 0
  Answered result = Checks d device device' steps steps' result

  abbrev pub Refused : CheckFault → Type 0
  Refused fault = Answered (Err fault) × (sink' ≡ sink)

  -- the file is sound, and this was written of the line that says so
  abbrev pub SaysSound : (List ℕ → Type 0) → Type 0
  SaysSound Wrote = (keys : ℕ) × (Answered (Ok (Sound keys)) × Wrote (line (codes "sound " ++ decimal keys)))

  -- it is broken, and this was written of the line that says how: the flaw, the level and the cell
  abbrev pub SaysBroken : (List ℕ → Type 0) → Type 0
  SaysBroken Wrote = (why : Flaw) × ((word : List ℕ) × ((level : ℕ) × ((cell : ℕ) × (IsCalled why word
      × (Answered (Ok (Broken why level cell))
      × Wrote (line (codes "broken " ++ word ++ codes " " ++ decimal level ++ codes " " ++ decimal cell)))))))

  -- how the test of a file ends
  pub data CheckAnswers (status : ℕ) : Type 0 where
    IsSound : status ≡ 0 → SaysSound (WroteWhole h sink sink') → CheckAnswers status
    NoMemory : status ≡ 1 → Refused check.OutOfMemory → CheckAnswers status
    SinkStops : status ≡ 4 → SaysSound (WroteSome h sink sink') ⊎ SaysBroken (WroteSome h sink sink') → CheckAnswers status
    DeviceStops : status ≡ 5 → Refused check.Device → CheckAnswers status
    NoStore : status ≡ 6 → Refused check.NotStore ⊎ Refused check.Small → CheckAnswers status
    InUse : status ≡ 7 → Refused check.NotClosed → CheckAnswers status
    IsBroken : status ≡ 13 → SaysBroken (WroteWhole h sink sink') → CheckAnswers status
