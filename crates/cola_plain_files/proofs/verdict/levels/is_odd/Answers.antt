use Rattle.std.proofs.Common.{ap, ◌==◌}
use Rattle.cola_clock.specs.Clock.{is_odd, visible_slot}
use Rattle.cola_plain_files.proofs.verdict.levels.is_odd.Goals as goal

pub returns : goal.returns
unfolding is_odd visible_slot
returns c = ap (λ n. n == 1) c.visible_slot.ensures.value
