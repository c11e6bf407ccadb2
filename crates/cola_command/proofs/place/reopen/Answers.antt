use Rattle.std.proofs.Common.{Ok, Err, refl, ap}
use Rattle.cola_spec.specs.Reply.{Opened}
use Rattle.cola_store.proofs.Storing.{counted-is}
use Rattle.cola_command.proofs.place.reopen.Goals as goal

pub returns-in-Ok-clause-cause : goal.returns-in-Ok-clause-cause
returns-in-Ok-clause-cause g c = (Ok c.in-Ok.store, (c.in-Ok.ensures.opens, (ap Opened (counted-is c.count-keys.result c.in-Ok.store.count c.count-keys.ensures.given.0.0), refl)))

pub returns-in-Err-clause-cause : goal.returns-in-Err-clause-cause
returns-in-Err-clause-cause g c = (Err (c.in-Err.device, c.in-Err.fault), (c.in-Err.ensures.opens, (c.refused.ensures, refl)))
