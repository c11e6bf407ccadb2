-- How the growing of a file ends: its line, its status, and what it leaves.
use Rattle.std.specs.Prelude.{◌≡◌, ℕ, Result, Ok, Err}
use Rattle.cola_device.specs.declared.device.Device as device
use Rattle.cola_io.specs.declared.sink.Sink as sink
use Rattle.cola_load.specs.declared.fault.GrowFault.{GrowFault}
use Rattle.cola_load.specs.declared.fault.GrowFault.TheVariants.{Small, NotStore, NotClosed, Fewer, OutOfMemory, BadCell, NotEmpty, Disorder, Device}
use Rattle.cola_load.specs.Grow.{Grows}
use Rattle.cola_report.specs.Line.{LineEnds}
use Rattle.cola_filling.specs.Loads.{loaded_line}

-- the status of a file that was not grown
abbrev pub grow_status : GrowFault → ℕ
grow_status Small = 6
grow_status NotStore = 6
grow_status NotClosed = 7
grow_status (Fewer count) = 15
grow_status OutOfMemory = 1
grow_status (BadCell number) = 10
grow_status NotEmpty = 8
grow_status (Disorder number) = 10
grow_status Device = 5

-- what is written of an answer: the number of rows, or nothing where there is none
abbrev pub Tells : {K : Type 0} → sink.Ghosts K → Result ℕ GrowFault → K → K → ℕ → Type 0
Tells h (Ok rows) sink sink' status = LineEnds h (loaded_line rows) 0 sink sink' status
Tells h (Err fault) sink sink' status = (status ≡ grow_status fault) × (sink' ≡ sink)

-- how the growing of a file ends: the new file is filled, and the number of its rows is written, or it is not, and nothing is
pub data GrowEnds {K D : Type 0} (h : sink.Ghosts K) (d : device.Ghosts D) (keys block_exp : ℕ) (device device' second second' : D) (sink sink' : K) (steps steps' status : ℕ) : Type 0 where
  Grown : (rows : ℕ) → Grows d d device device' second second' steps steps' keys block_exp (Ok rows) → LineEnds h (loaded_line rows) 0 sink sink' status → GrowEnds h d keys block_exp device device' second second' sink sink' steps steps' status
  NotGrown : (fault : GrowFault) → status ≡ grow_status fault → Grows d d device device' second second' steps steps' keys block_exp (Err fault) → sink' ≡ sink → GrowEnds h d keys block_exp device device' second second' sink sink' steps steps' status
