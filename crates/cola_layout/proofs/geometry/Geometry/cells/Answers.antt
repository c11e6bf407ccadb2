use Rattle.std.proofs.Common.{◌≤◌, ◌+◌, arith}
use Rattle.std.proofs.lemmas.Nat.{one_shl}
use Rattle.cola_layout.proofs.Powers.{power-le}
use Rattle.cola_layout.proofs.geometry.Geometry.cells.Goals as goal

pub returns-clause-bound : goal.returns-clause-bound
returns-clause-bound c =
    let shallow : c.args.self.now.bottom ≤ 22 = c.args.self.now.shallow in
    rw (one_shl (c.args.self.now.bottom + 4) 64 (omega arith)) (power-le (c.args.self.now.bottom + 4) 26 (omega arith))
