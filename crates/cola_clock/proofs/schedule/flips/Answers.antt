use Rattle.std.proofs.Common.{◌+◌, ◌%◌, nat_eq, ap}
use Rattle.cola_clock.specs.Clock.{flips}
use Rattle.cola_clock.proofs.schedule.flips.Goals as goal

pub returns : goal.returns
unfolding flips
returns c = ap (λ p. nat_eq ((c.args.clock + 1) % p) 0) c.period_length.ensures.value
