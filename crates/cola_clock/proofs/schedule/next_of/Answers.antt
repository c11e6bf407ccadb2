use Rattle.cola_clock.proofs.Calls.{below_bottom, below_odd, below_even}
use Rattle.cola_clock.proofs.schedule.next_of.Goals as goal

pub returns-then-level-bottom : goal.returns-then-level-bottom
returns-then-level-bottom c = below_bottom c.args.clock c.args.level c.args.bottom 0 c.if-level-bottom.true

pub returns-then-visible_slot-eq1 : goal.returns-then-visible_slot-eq1
returns-then-visible_slot-eq1 c =
    below_odd c.args.clock c.args.level c.args.bottom c.visible_slot.result c.if-level-bottom.false c.visible_slot.ensures.value c.if-visible_slot-eq1.true

pub returns-else-visible_slot-eq1 : goal.returns-else-visible_slot-eq1
returns-else-visible_slot-eq1 c =
    below_even c.args.clock c.args.level c.args.bottom c.visible_slot.result c.if-level-bottom.false c.visible_slot.ensures.value c.if-visible_slot-eq1.false
