-- How the test of a file ends.
use Rattle.std.proofs.Common.{ℕ, Result, Ok, Err}
use Rattle.cola_check.specs.declared.fault.CheckFault.{CheckFault}
use Rattle.cola_check.specs.Check.{Checks}
use Rattle.cola_device.specs.declared.device.Device as device
use Rattle.cola_io.specs.declared.sink.Sink as sink
use Rattle.cola_verdict.specs.declared.verdict.Verdict.{Verdict}
use Rattle.cola_command.specs.Checked.{Tells, CheckEnds}
use Rattle.cola_command.specs.Checked.CheckEnds.{Judged, NotJudged}

-- by what was written of its answer
pub ends-by : {K D : Type 0} (h : sink.Ghosts K) (d : device.Ghosts D) (device device' : D) (sink sink' : K) (steps steps' status : ℕ) (answer : Result Verdict CheckFault) → Checks d device device' steps steps' answer → Tells h answer sink sink' status → CheckEnds h d device device' sink sink' steps steps' status
ends-by h d device device' sink sink' steps steps' status (Ok verdict) checks wrote = Judged verdict checks wrote
ends-by h d device device' sink sink' steps steps' status (Err fault) checks wrote = NotJudged fault wrote.0 checks wrote.1
