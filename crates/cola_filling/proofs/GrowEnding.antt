-- How the growing of a file ends, by what was written of its answer.
use Rattle.std.proofs.Common.{ℕ, Result, Ok, Err}
use Rattle.cola_device.specs.declared.device.Device as device
use Rattle.cola_io.specs.declared.sink.Sink as sink
use Rattle.cola_load.specs.declared.fault.GrowFault.{GrowFault}
use Rattle.cola_load.specs.Grow.{Grows}
use Rattle.cola_filling.specs.Grows.{Tells, GrowEnds, Grown, NotGrown}

module _ {K D : Type 0} (h : sink.Ghosts K) (d : device.Ghosts D) (keys block_exp : ℕ) (device device' second second' : D) (sink sink' : K) (steps steps' : ℕ) where
  pub ends-by : (status : ℕ) (answer : Result ℕ GrowFault) → Grows d d device device' second second' steps steps' keys block_exp answer → Tells h answer sink sink' status
      → GrowEnds h d keys block_exp device device' second second' sink sink' steps steps' status
  ends-by status (Ok rows) grows wrote = Grown rows grows wrote
  ends-by status (Err fault) grows wrote = NotGrown fault wrote.0 grows wrote.1
