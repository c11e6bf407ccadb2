use Rattle.std.proofs.Common.{◌==◌, ap, ◌∙◌}
use Rattle.cola_check.proofs.Common.{Run}
use Rattle.cola_check.proofs.LiveTests.{odd-slot}
use Rattle.cola_check.proofs.living.counted_level.Goals as goal

pub returns : goal.returns
returns c =
    let is = c.visible_run-visible.ensures.value in
    let odd = ap (λ (r : Run). r.slot == 1) is ∙ odd-slot c.args.header.now.clock c.args.level in
    λ i. record { visible = is i; shadow = c.finished_shadow.ensures i; odd = odd i }
