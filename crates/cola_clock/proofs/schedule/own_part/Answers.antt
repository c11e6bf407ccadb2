use Rattle.cola_clock.proofs.Calls.{part_bottom, part_odd, part_even}
use Rattle.cola_clock.proofs.schedule.own_part.Goals as goal

pub returns-then-level-bottom : goal.returns-then-level-bottom
returns-then-level-bottom c = part_bottom c.args.clock c.args.level c.args.bottom 0 c.if-level-bottom.true

pub returns-then-visible_slot-eq1 : goal.returns-then-visible_slot-eq1
returns-then-visible_slot-eq1 c =
    part_odd c.args.clock c.args.level c.args.bottom c.visible_slot.result c.if-level-bottom.false c.visible_slot.ensures.value c.if-visible_slot-eq1.true

pub returns-else-visible_slot-eq1 : goal.returns-else-visible_slot-eq1
returns-else-visible_slot-eq1 c =
    part_even c.args.clock c.args.level c.args.bottom c.visible_slot.result c.if-level-bottom.false c.visible_slot.ensures.value c.if-visible_slot-eq1.false
