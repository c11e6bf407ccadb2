use Rattle.std.proofs.Common.{sym, arith}
use Rattle.cola_clock.proofs.Calls.{works_zero, works_one, works_from, works_not_yet}
use Rattle.cola_clock.proofs.schedule.works.Goals as goal

pub returns-in-0 : goal.returns-in-0
returns-in-0 c = sym (works_zero c.args.clock c.args.level c.in-0.is)

pub returns-in-1 : goal.returns-in-1
returns-in-1 c = sym (works_one c.args.clock c.args.level c.in-1.is)

pub returns-then-elapsed-period_length : goal.returns-then-elapsed-period_length
returns-then-elapsed-period_length c =
    works_from c.args.clock c.args.level _ _ _ (omega arith) c.period_length.ensures.value c.period_length-in_default.ensures.value
    c.period_length-then-elapsed-period_length.ensures.value c.if-elapsed-period_length.true

pub returns-else-elapsed-period_length : goal.returns-else-elapsed-period_length
returns-else-elapsed-period_length c =
    works_not_yet c.args.clock c.args.level _ _ (omega arith) c.period_length.ensures.value c.period_length-in_default.ensures.value
    c.if-elapsed-period_length.false
