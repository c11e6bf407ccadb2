use Rattle.std.proofs.Common.{◌≡◌, ◌*◌, ℕ, length, subst, arith}
use Rattle.cola_cell.specs.Format.{width}
use Rattle.cola_device.specs.Bytes.{Gives}
use Rattle.cola_front.specs.Front.{FrontCells}
use Rattle.cola_front.proofs.Stored.{loaded_told}
use Rattle.cola_front.proofs.front.Front.load_block.Goals as goal

pub returns-in-Ok-clause-taken : goal.returns-in-Ok-clause-taken
returns-in-Ok-clause-taken g c =
    let f = c.args.self.now in
    let e = c.take.ensures in
    let told = g.D.Device.bytes c.args.device.now in
    let given : Gives told (width c.self.inside.format * c.args.first) c.read.new.into = subst (λ (n : ℕ). Gives told (n * c.args.first) c.read.new.into) c.width.ensures c.in-Ok.ensures.given in
    let here : Gives told (width f.format * c.args.first) c.read.new.into = subst (λ (x : FrontCells). Gives told (width x.format * c.args.first) c.read.new.into) c.self.view_is given in
    let whole : length c.read.new.into ≡ width f.format * f.block = e.whole in
    loaded_told f.format told c.read.new.into c.take.new.self.cells c.args.first c.args.from f.block here (omega (arith, whole)) c.requires.begin e.taken
