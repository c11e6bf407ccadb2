-- Every other status has a fault for its cause.
use Rattle.cola_workload.proofs.OnEmpty.{complete}
use Rattle.cola_workload.proofs.workload.new_workloads_complete.Goals as goal

pub returns : goal.returns
returns g c = λ keys status sink sink' device device' ends caused calm quiet. complete g.K.Sink keys sink sink' (g.D.Device.bytes device') status (g.D.Device.counts device).faults (g.D.Device.counts device').faults ends caused calm quiet
