-- The device comes back, whatever the attempt answers.
use Rattle.std.proofs.Common.{Ok, Err, refl}
use Rattle.cola_workload.proofs.workload.close_once.Goals as goal

pub returns-in-Ok-clause-closed : goal.returns-in-Ok-clause-closed
returns-in-Ok-clause-closed g c = record { attempt = Ok c.in-Ok.device; closes = c.in-Ok.ensures.closes; device_is = refl }

pub returns-in-Err-clause-closed : goal.returns-in-Err-clause-closed
returns-in-Err-clause-closed g c = record { attempt = Err c.in-Err.closing; closes = c.in-Err.ensures.closes; device_is = c.into_device.ensures }
