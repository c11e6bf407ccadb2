use Rattle.std.proofs.Common.{◌==◌, ap, ◌∙◌}
use Rattle.cola_check.proofs.Common.{Run}
use Rattle.cola_check.proofs.LiveTests.{odd-slot}
use Rattle.cola_check.proofs.runs.is_odd_at.Goals as goal

pub returns : goal.returns
returns c = ap (λ (r : Run). r.slot == 1) c.visible_run.ensures.value ∙ odd-slot c.args.header.now.clock c.args.level
