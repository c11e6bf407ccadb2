use Rattle.std.proofs.Common.{sym, ◌∙◌}
use Rattle.cola_check.proofs.LiveTests.{clock-fits, none-over}
use Rattle.cola_check.proofs.ShadowTests.{in-phase}
use Rattle.cola_check.proofs.living.is_window_over.Goals as goal

pub returns-then-level-eq0 : goal.returns-then-level-eq0
returns-then-level-eq0 c = none-over c.args.header.now.clock c.args.level c.if-level-eq0.true

pub phase-requires-clause-clock_in_range : goal.phase-requires-clause-clock_in_range
phase-requires-clause-clock_in_range c = clock-fits c.args.header.now

pub returns-in-After : goal.returns-in-After
returns-in-After c = sym ((in-phase c.args.header.now.clock c.args.level).after (sym c.phase.ensures.value ∙ c.in-After.is))
