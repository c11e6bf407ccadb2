use Rattle.std.proofs.Common.{◌/◌, ◌%◌, ap}
use Rattle.cola_clock.specs.Clock.{period, visible_slot}
use Rattle.cola_clock.proofs.schedule.visible_slot.Goals as goal

pub returns-clause-value : goal.returns-clause-value
unfolding visible_slot period
returns-clause-value c = ap (λ p. c.args.clock / p % 2) c.period_length.ensures.value
