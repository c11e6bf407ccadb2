use Rattle.cola_check.proofs.LiveTests.{clock-fits}
use Rattle.cola_check.proofs.runs.visible_at.Goals as goal

pub visible_slot-requires-clause-clock_in_range : goal.visible_slot-requires-clause-clock_in_range
visible_slot-requires-clause-clock_in_range c = clock-fits c.args.header.now
