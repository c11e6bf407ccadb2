use Rattle.std.proofs.Common.{◌≤◌, ◌^◌, arith}
use Rattle.std.proofs.Math.Pow.{pow_mono}
use Rattle.cola_clock.proofs.schedule.period_length.Goals as goal

pub returns-clause-bound : goal.returns-clause-bound
returns-clause-bound c =
    let bound : 2 ^ c.args.level ≤ 2 ^ 22 = pow_mono c.requires in omega arith
