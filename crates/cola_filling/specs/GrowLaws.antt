-- How the growing of a file ends, said once more in plain terms: by the status, with the text of its line.
use Rattle.std.specs.Prelude.{◌≡◌, ◌⊎◌, ℕ, ◌++◌, codes, decimal, Result, Ok, Err}
use Rattle.cola_device.specs.declared.device.Device as device
use Rattle.cola_io.specs.declared.sink.Sink as sink
use Rattle.cola_load.specs.declared.fault.GrowFault.{GrowFault}
use Rattle.cola_load.specs.declared.fault.GrowFault.TheVariants as grow
use Rattle.cola_load.specs.Grow.{Grows}
use Rattle.cola_report.specs.Laws.{WroteWhole, WroteSome}
use Rattle.cola_spec.specs.Reply.{line}

module _ {K D : Type 0} (h : sink.Ghosts K) (d : device.Ghosts D) (keys block_exp : ℕ) (device device' second second' : D) (sink sink' : K) (steps steps' : ℕ) where
  -- growing the file was answered so; it was refused so, and nothing was written
  abbrev pub Grew : Result ℕ GrowFault → Type 0
  Grew result = Grows d d device device' second second' steps steps' keys block_exp result

  abbrev pub Refused : GrowFault → Type 0
  Refused fault = Grew (Err fault) × (sink' ≡ sink)

  -- by the status: the answer of `grow`, what was written, and nothing where there is no number of rows
  pub data GrowAnswers (status : ℕ) : Type 0 where
    Grown : status ≡ 0 → (rows : ℕ) → Grew (Ok rows) → WroteWhole h sink sink' (line (codes "loaded " ++ decimal rows)) → GrowAnswers status
    NoMemory : status ≡ 1 → Refused grow.OutOfMemory → GrowAnswers status
    SinkStops : status ≡ 4 → (rows : ℕ) → Grew (Ok rows) → WroteSome h sink sink' (line (codes "loaded " ++ decimal rows)) → GrowAnswers status
    DeviceStops : status ≡ 5 → Refused grow.Device → GrowAnswers status
    NoStore : status ≡ 6 → Refused grow.NotStore ⊎ Refused grow.Small → GrowAnswers status
    InUse : status ≡ 7 → Refused grow.NotClosed → GrowAnswers status
    NotEmpty : status ≡ 8 → Refused grow.NotEmpty → GrowAnswers status
    Damaged : status ≡ 10 → (number : ℕ) → Refused (grow.BadCell number) ⊎ Refused (grow.Disorder number) → GrowAnswers status
    TooFewKeys : status ≡ 15 → (count : ℕ) → Refused (grow.Fewer count) → GrowAnswers status
