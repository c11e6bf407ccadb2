use Rattle.std.proofs.Common.{arith}
use Rattle.cola_device.specs.declared.device.DeviceFault.{DeviceFault}
use Rattle.cola_front.proofs.Writes.{store_refused, store_tried}
use Rattle.cola_front.proofs.front.Front.store.Goals as goal

pub returns-in-Ok-clause-wrote : goal.returns-in-Ok-clause-wrote
returns-in-Ok-clause-wrote g c =
    let told = g.D.Device.bytes in
    let size = c.block_bytes-size.ensures in
    let both =
    store_tried c.args.self.now size.sound c.args.header.now (omega (arith, c.told-header)) DeviceFault c.in-Ok.field-0 c.write-in-Ok.result c.block_bytes-size.result c.put_second.new.block c.put_first.new.block
    (told c.args.device.now) (told c.write.new.self) (told c.write-in-Ok.new.self) size.value c.put_second.ensures.put c.put_first.ensures.put c.requires c.in-Ok.ensures.wrote c.write-in-Ok.ensures.wrote in
    both.0

pub returns-in-Ok-clause-in_order : goal.returns-in-Ok-clause-in_order
returns-in-Ok-clause-in_order g c =
    let told = g.D.Device.bytes in
    let size = c.block_bytes-size.ensures in
    let both =
    store_tried c.args.self.now size.sound c.args.header.now (omega (arith, c.told-header)) DeviceFault c.in-Ok.field-0 c.write-in-Ok.result c.block_bytes-size.result c.put_second.new.block c.put_first.new.block
    (told c.args.device.now) (told c.write.new.self) (told c.write-in-Ok.new.self) size.value c.put_second.ensures.put c.put_first.ensures.put c.requires c.in-Ok.ensures.wrote c.write-in-Ok.ensures.wrote in
    both.1

pub returns-in-Err-clause-wrote : goal.returns-in-Err-clause-wrote
returns-in-Err-clause-wrote g c =
    let told = g.D.Device.bytes in
    let size = c.block_bytes-size.ensures in
    let both =
    store_refused c.args.self.now size.sound c.args.header.now (omega (arith, c.told-header)) DeviceFault c.in-Err.fault c.block_bytes-size.result c.put_second.new.block (told c.args.device.now) (told c.write.new.self)
    size.value c.put_second.ensures.put c.requires c.in-Err.ensures.wrote in
    both.0

pub returns-in-Err-clause-in_order : goal.returns-in-Err-clause-in_order
returns-in-Err-clause-in_order g c =
    let told = g.D.Device.bytes in
    let size = c.block_bytes-size.ensures in
    let both =
    store_refused c.args.self.now size.sound c.args.header.now (omega (arith, c.told-header)) DeviceFault c.in-Err.fault c.block_bytes-size.result c.put_second.new.block (told c.args.device.now) (told c.write.new.self)
    size.value c.put_second.ensures.put c.requires c.in-Err.ensures.wrote in
    both.1
