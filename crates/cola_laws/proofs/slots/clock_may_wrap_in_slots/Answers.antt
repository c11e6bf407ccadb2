use Rattle.cola_laws.proofs.SlotSteps.{wrapped-in-slots}
use Rattle.cola_laws.proofs.slots.clock_may_wrap_in_slots.Goals as goal

pub returns : goal.returns
returns g c = λ cells most t map top below s. wrapped-in-slots g.met.K.Ord.total most cells t map top below s
