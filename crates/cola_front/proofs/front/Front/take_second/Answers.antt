use Rattle.std.proofs.Common.{◌≡◌, ◌-◌, ℕ, ap, subst, arith}
use Rattle.cola_cell.specs.Decoded.{decoded}
use Rattle.cola_front.specs.Front.{FrontCells, cell_at, cell_bytes}
use Rattle.cola_front.proofs.front.Front.take_second.Goals as goal

pub returns-clause-taken : goal.returns-clause-taken
returns-clause-taken c =
    let f = c.args.self.now in
    let e = c.take.ensures in
    let same : c.self.inside.block ≡ f.block = ap (λ (x : FrontCells). x.block) c.self.view_is in
    λ place behind within.
    subst (λ (n : ℕ). cell_at c.take.new.self place ≡ decoded f.format (cell_bytes f.format c.args.block.now (place - n))) same
    (e.taken place (omega (arith, same, behind)) (omega (arith, same, within)))
