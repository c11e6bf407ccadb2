use Rattle.std.proofs.Common.{◌<◌, length, arith, ap}
use Rattle.cola_spec.specs.Lines.{line_limit}
use Rattle.cola_io.proofs.BufferLemmas.{finish_long}
use Rattle.cola_io.proofs.buffer.Buffer.is_blank.Goals as goal

pub returns-in-Long : goal.returns-in-Long
returns-in-Long c =
    let long : line_limit < length c.args.self.now.begun = finish_long _ _ _ c.args.self.now c.self.view_is c.in-Long.is in
    (λ h. (cc), λ e. absurd (omega (arith, long, ap length e)))
