use Rattle.std.proofs.Common.{◌≡◌, ◌-◌, ℕ, subst, arith}
use Rattle.cola_cell.specs.Decoded.{decoded}
use Rattle.cola_front.specs.Front.{cell_at, cell_bytes}
use Rattle.cola_front.proofs.front.Front.take_first.Goals as goal

pub returns-clause-taken : goal.returns-clause-taken
returns-clause-taken c =
    let f = c.args.self.now in
    let e = c.take.ensures in
    λ place behind within.
    let none : place - 0 ≡ place = omega arith in
    subst (λ (n : ℕ). cell_at c.take.new.self place ≡ decoded f.format (cell_bytes f.format c.args.block.now n)) none (e.taken place behind (omega (arith, within)))
