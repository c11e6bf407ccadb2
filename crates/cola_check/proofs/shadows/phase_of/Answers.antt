use Rattle.cola_check.proofs.LiveTests.{clock-fits}
use Rattle.cola_check.proofs.shadows.phase_of.Goals as goal

pub phase-requires-clause-clock_in_range : goal.phase-requires-clause-clock_in_range
phase-requires-clause-clock_in_range c = clock-fits c.args.header.now
