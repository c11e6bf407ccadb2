use Rattle.std.proofs.Common.{◌≤◌, ◌+◌, ◌^◌, ◌∙◌, arith}
use Rattle.std.proofs.Math.Pow.{pow_mono}
use Rattle.cola_device.specs.declared.device.DeviceFault.{DeviceFault}
use Rattle.cola_load.proofs.Placing.{front-number, same-level, front-put-of, tail-put-of, tail-front-of}
use Rattle.cola_load.proofs.loader.Loader.put.Goals as goal

pub write-requires-clause-within : goal.write-requires-clause-within
write-requires-clause-within g c =
    let below = front-number c.self.inside.geometry.block_exp c.args.level c.args.index c.requires.index (omega (arith, c.front_levels.ensures.value, c.if-level-front_levels.true)) in
    omega (arith, below, c.self.invariant.block, c.place.ensures.value)

pub returns-then-level-front_levels-clause-puts : goal.returns-then-level-front_levels-clause-puts
returns-then-level-front_levels-clause-puts g c =
    let below = front-number c.self.inside.geometry.block_exp c.args.level c.args.index c.requires.index (omega (arith, c.front_levels.ensures.value, c.if-level-front_levels.true)) in
    front-put-of c.args.level c.args.index c.args.cell.now c.self.view_is c.requires.level c.requires.index
    DeviceFault (tt {0}) (g.D.Device.bytes c.args.device.now) (omega (arith, c.front_levels.ensures.value, c.if-level-front_levels.true))
    (omega (arith, below, c.self.invariant.block, c.write.ensures.sound.many)) c.write.ensures.after c.place.ensures.value

pub put_on_device-requires-clause-few : goal.put_on_device-requires-clause-few
put_on_device-requires-clause-few g c =
    let low : c.args.level + 2 ≤ 24 = omega (arith, same-level c.args.level c.self.view_is c.requires.level, c.self.inside.geometry.shallow) in
    let most : 2 ^ (c.args.level + 2) ≤ 2 ^ 24 = pow_mono low in
    omega (arith, most, c.requires.index)

pub returns-clause-puts : goal.returns-clause-puts
returns-clause-puts g c =
    let e = c.put_on_device.ensures in
    let high : c.self.inside.geometry.block_exp ≤ c.args.level + 2 = omega (arith, c.front_levels.ensures.value, c.front_levels.ensures.some, c.if-level-front_levels.false) in
    tail-put-of c.args.level c.args.index c.args.cell.now c.self.view_is c.requires.level c.requires.index
    c.put_on_device.result (g.D.Device.bytes c.args.device.now) (g.D.Device.bytes c.put_on_device.new.device) high c.requires.inside c.put_on_device.new.tails e.wrote
    c.self.invariant.tails_many e.spelled e.tails

pub returns-clause-front_stays : goal.returns-clause-front_stays
returns-clause-front_stays g c =
    let e = c.put_on_device.ensures in
    let high : c.self.inside.geometry.block_exp ≤ c.args.level + 2 = omega (arith, c.front_levels.ensures.value, c.front_levels.ensures.some, c.if-level-front_levels.false) in
    tail-front-of c.args.level c.args.index c.args.cell.now c.self.view_is c.requires.level c.requires.index
    c.put_on_device.result (g.D.Device.bytes c.args.device.now) (g.D.Device.bytes c.put_on_device.new.device) high c.requires.inside c.put_on_device.new.tails e.wrote
    (e.many ∙ c.self.invariant.tails_many)
