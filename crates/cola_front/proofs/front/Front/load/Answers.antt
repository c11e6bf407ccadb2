use Rattle.std.proofs.Common.{ap, arith}
use Rattle.cola_front.specs.Front.{FrontCells}
use Rattle.cola_front.proofs.Stored.{load_meets}
use Rattle.cola_front.proofs.front.Front.load.Goals as goal

pub returns-in-Ok-clause-loaded : goal.returns-in-Ok-clause-loaded
returns-in-Ok-clause-loaded g c =
    let e = c.load_block.ensures in
    let f = c.load_block-in-Ok.ensures in
    let told = g.D.Device.bytes c.args.device.now in
    load_meets c.load_block-in-Ok.result told (g.D.Device.bytes c.load_block.new.device) c.args.self.now c.load_block.new.self c.load_block-in-Ok.new.self c.self.inside.block e.bytes_stay (ap (λ (x : FrontCells). x.block) c.self.view_is)
    c.in-Ok.ensures.taken f.taken f.below e.shape f.shape

pub load_block-requires-clause-end : goal.load_block-requires-clause-end
load_block-requires-clause-end g c = let sound = c.block_bytes.ensures.sound in let some = sound.some in omega (arith, some)
