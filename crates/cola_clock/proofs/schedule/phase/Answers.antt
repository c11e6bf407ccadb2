use Rattle.std.proofs.Common.{arith}
use Rattle.cola_clock.proofs.Calls.{phase_even, phase_odd, phase_before, phase_inside, phase_after}
use Rattle.cola_clock.proofs.schedule.phase.Goals as goal

pub returns-then-clock-eq0 : goal.returns-then-clock-eq0
returns-then-clock-eq0 c =
    let r = phase_even c.args.clock c.args.level c.if-level-eq1.true c.if-clock-eq0.true in
    record { value = r.value; before = r.before; inside = r.inside; after = r.after }

pub returns-else-clock-eq0 : goal.returns-else-clock-eq0
returns-else-clock-eq0 c =
    let r = phase_odd c.args.clock c.args.level c.if-level-eq1.true c.if-clock-eq0.false in
    record { value = r.value; before = r.before; inside = r.inside; after = r.after }

pub returns-then-elapsed-begin : goal.returns-then-elapsed-begin
returns-then-elapsed-begin c =
    let r = phase_before c.args.clock c.args.level c.period_length.result c.period_length-begin.result 0 (omega arith)
    c.period_length.ensures.value c.period_length-begin.ensures.value c.if-elapsed-begin.true in
    record { value = r.value; before = r.before; inside = r.inside; after = r.after }

pub returns-then-elapsed-period_length : goal.returns-then-elapsed-period_length
returns-then-elapsed-period_length c =
    let r = phase_inside c.args.clock c.args.level c.period_length.result c.period_length-begin.result
    c.period_length-else-elapsed-begin.result (omega arith) c.period_length.ensures.value c.period_length-begin.ensures.value
    c.period_length-else-elapsed-begin.ensures.value c.if-elapsed-begin.false c.if-elapsed-period_length.true in
    record { value = r.value; before = r.before; inside = r.inside; after = r.after }

pub returns-else-elapsed-period_length : goal.returns-else-elapsed-period_length
returns-else-elapsed-period_length c =
    let r = phase_after c.args.clock c.args.level c.period_length.result c.period_length-begin.result
    c.period_length-else-elapsed-begin.result (omega arith) c.period_length.ensures.value c.period_length-begin.ensures.value
    c.period_length-else-elapsed-begin.ensures.value c.if-elapsed-begin.false c.if-elapsed-period_length.false in
    record { value = r.value; before = r.before; inside = r.inside; after = r.after }
