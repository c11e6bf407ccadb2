-- The device comes back, whatever the other attempt answers.
use Rattle.std.proofs.Common.{Ok, Err, refl}
use Rattle.cola_workload.proofs.workload.close_again.Goals as goal

pub returns-in-Ok-clause-closed : goal.returns-in-Ok-clause-closed
returns-in-Ok-clause-closed g c = λ store owed. record { closing = c.args.closing; refused = owed; attempt = Ok c.in-Ok.device; closes = c.in-Ok.ensures.closed; device_is = refl }

pub returns-in-Err-clause-closed : goal.returns-in-Err-clause-closed
returns-in-Err-clause-closed g c = λ store owed. record { closing = c.args.closing; refused = owed; attempt = Err c.in-Err.closing; closes = c.in-Err.ensures.owes; device_is = c.into_device.ensures }
