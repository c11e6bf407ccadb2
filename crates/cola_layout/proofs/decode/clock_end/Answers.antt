use Rattle.std.proofs.Common.{◌≤◌, ◌+◌, arith}
use Rattle.std.proofs.lemmas.Nat.{one_shl}
use Rattle.cola_layout.proofs.Powers.{power-le}
use Rattle.cola_layout.proofs.decode.clock_end.Goals as goal

pub returns-clause-bound : goal.returns-clause-bound
returns-clause-bound c =
    let shallow : c.args.bottom ≤ 22 = c.requires in
    rw (one_shl (c.args.bottom + 1) 64 (omega arith)) (power-le (c.args.bottom + 1) 23 (omega arith))
