use Rattle.std.proofs.Common.{Ok, Err}
use Rattle.cola_device.specs.declared.device.DeviceFault.{DeviceFault}
use Rattle.cola_device.proofs.SettlingLemmas.{settled-by}
use Rattle.cola_wide.specs.declared.fault.UpgradeFault.TheVariants.{Device}
use Rattle.cola_wide.proofs.Writes.{wrote-then, wrote-err}
use Rattle.cola_wide.proofs.copying.write_first.Goals as goal

pub returns-in-Err-clause-wrote : goal.returns-in-Err-clause-wrote
returns-in-Err-clause-wrote g c =
    wrote-err (Unit {0}) {U = Unit {0}} {F = DeviceFault} (Err c.in-Err.field-0) Device 0 c.args.wide.now (g.E.Device.bytes c.args.to.now) (g.E.Device.bytes c.write.new.self) c.in-Err.ensures.wrote

pub returns-in-Ok-settle-clause-wrote : goal.returns-in-Ok-settle-clause-wrote
returns-in-Ok-settle-clause-wrote g c =
    wrote-then DeviceFault c.in-Ok.field-0 (Ok c.in-Ok-settle.field-0) 0 c.args.wide.now (g.E.Device.bytes c.args.to.now) (g.E.Device.bytes c.write.new.self) (g.E.Device.bytes c.settle.new.self) c.settle.ensures.bytes_stay c.in-Ok.ensures.wrote

pub returns-in-Err-settle-clause-wrote : goal.returns-in-Err-settle-clause-wrote
returns-in-Err-settle-clause-wrote g c =
    wrote-then DeviceFault c.in-Ok.field-0 (Err Device) 0 c.args.wide.now (g.E.Device.bytes c.args.to.now) (g.E.Device.bytes c.write.new.self) (g.E.Device.bytes c.settle.new.self) c.settle.ensures.bytes_stay c.in-Ok.ensures.wrote

pub returns-in-Ok-settle-clause-settled : goal.returns-in-Ok-settle-clause-settled
returns-in-Ok-settle-clause-settled g c = settled-by g.E.Device (Ok c.in-Ok-settle.field-0) c.write.new.self c.settle.new.self c.in-Ok-settle.ensures.settled c.settle.ensures.bytes_stay
