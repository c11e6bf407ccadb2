use Rattle.std.proofs.Common.{Ok, Err, refl}
use Rattle.cola_command.proofs.place.close_again.Goals as goal

pub returns-in-Ok-clause-cause : goal.returns-in-Ok-clause-cause
returns-in-Ok-clause-cause g c = (Ok c.in-Ok.device, (c.in-Ok.ensures.closed, (refl, refl)))

pub returns-in-Err-clause-cause : goal.returns-in-Err-clause-cause
returns-in-Err-clause-cause g c = (Err c.in-Err.closing, (c.in-Err.ensures.owes, (refl, refl)))
