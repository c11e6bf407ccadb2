use Rattle.std.proofs.Common.{sym}
use Rattle.cola_plain_files.proofs.Tests.{over_of_after, over_at_zero}
use Rattle.cola_plain_files.proofs.verdict.tests.is_over.Goals as goal

pub returns-then-number-eq0 : goal.returns-then-number-eq0
returns-then-number-eq0 c = sym (over_at_zero c.args.clock c.args.number c.if-number-eq0.true)

pub returns-in-After : goal.returns-in-After
returns-in-After c = sym (over_of_after c.args.clock c.args.number c.phase.result c.phase.ensures.value c.in-After.is)
