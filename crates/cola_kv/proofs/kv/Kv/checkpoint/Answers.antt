use Rattle.cola_kv.proofs.Openings.{saved-open, saved-shut, shut-reason, reopens}
use Rattle.cola_kv.proofs.kv.Kv.checkpoint.Goals as goal

pub returns-in-Ok-open-clause-map_stays : goal.returns-in-Ok-open-clause-map_stays
returns-in-Ok-open-clause-map_stays g c = λ m holds. c.in-Ok-open.ensures.sound m (c.in-Ok.ensures.stands m holds)

pub returns-in-Ok-open-clause-saved : goal.returns-in-Ok-open-clause-saved
returns-in-Ok-open-clause-saved g c = λ m holds.
    saved-open g.D.Device m c.in-Ok.device c.args.self.cache c.in-Ok-open.kv c.in-Ok.ensures.settled (c.in-Ok.ensures.stands m holds) c.in-Ok-open.ensures.open

pub returns-in-Err-open-clause-left : goal.returns-in-Err-open-clause-left
returns-in-Err-open-clause-left g c = λ m holds. (
  saved-shut g.D.Device m c.in-Ok.device c.in-Err-open.device c.in-Err-open.error c.in-Ok.ensures.settled (c.in-Ok.ensures.stands m holds) c.in-Err-open.ensures.cause,
  shut-reason g.D.Device c.in-Ok.device c.in-Err-open.device c.in-Err-open.error (c.in-Err-open.ensures.sound m (c.in-Ok.ensures.stands m holds)),
)

pub returns-in-Ok-open-clause-reopens : goal.returns-in-Ok-open-clause-reopens
returns-in-Ok-open-clause-reopens g c = reopens g.D.Device c.args.self c.in-Ok-open.kv c.in-Ok.device c.in-Ok.ensures.given c.in-Ok-open.ensures.open

pub returns-in-Err-open-clause-cause : goal.returns-in-Err-open-clause-cause
returns-in-Err-open-clause-cause g c = (c.in-Ok.device, c.in-Ok.ensures.settled, c.in-Ok.ensures.given, c.in-Err-open.ensures.cause)

pub returns-in-Err-clause-cause : goal.returns-in-Err-clause-cause
returns-in-Err-clause-cause g c = (c.in-Err.ensures.cause, c.in-Err.ensures.given)
