use Rattle.cola_laws.proofs.Wraps.{same-schedule, clock-wraps}
use Rattle.cola_laws.proofs.reading.clock_may_wrap.Goals as goal

pub returns : goal.returns
returns g c = record {
  same_schedule = λ most t u map top below same s. same-schedule g.K.Ord.cmp most t u map top below same s;
  wrap = λ most t map top below s. clock-wraps g.K.Ord.cmp most t map top below s;
}
