use Rattle.std.proofs.Common.{ℕ, Ok, Err, refl}
use Rattle.cola_device.specs.declared.device.DeviceFault.{DeviceFault}
use Rattle.cola_load.proofs.Saving.{front-room, finishes-by, refused-by, stored-size, stored-levels}
use Rattle.cola_load.proofs.loader.Loader.write_front.Goals as goal

pub store-requires : goal.store-requires
store-requires g c = front-room (g.D.Device.bytes c.args.device.now) c.self.view_is c.self.invariant c.requires.inside

pub returns-in-Err-clause-size_stays : goal.returns-in-Err-clause-size_stays
returns-in-Err-clause-size_stays g c =
    stored-size _ _ c.self.view_is c.store.ensures.sound c.self.invariant c.encode.array_long c.requires.inside refl c.store.result c.store.ensures.wrote

pub returns-in-Ok-settle-clause-size_stays : goal.returns-in-Ok-settle-clause-size_stays
returns-in-Ok-settle-clause-size_stays g c =
    stored-size _ _ c.self.view_is c.store.ensures.sound c.self.invariant c.encode.array_long c.requires.inside c.settle.ensures.bytes_stay c.store.result c.store.ensures.wrote

pub returns-in-Err-settle-clause-size_stays : goal.returns-in-Err-settle-clause-size_stays
returns-in-Err-settle-clause-size_stays g c =
    stored-size _ _ c.self.view_is c.store.ensures.sound c.self.invariant c.encode.array_long c.requires.inside c.settle.ensures.bytes_stay c.store.result c.store.ensures.wrote

pub returns-in-Err-clause-levels_stay : goal.returns-in-Err-clause-levels_stay
returns-in-Err-clause-levels_stay g c =
    stored-levels _ _ c.self.view_is c.store.ensures.sound c.self.invariant c.encode.array_long c.requires.inside refl c.store.result c.store.ensures.wrote

pub returns-in-Ok-settle-clause-levels_stay : goal.returns-in-Ok-settle-clause-levels_stay
returns-in-Ok-settle-clause-levels_stay g c =
    stored-levels _ _ c.self.view_is c.store.ensures.sound c.self.invariant c.encode.array_long c.requires.inside c.settle.ensures.bytes_stay c.store.result c.store.ensures.wrote

pub returns-in-Err-settle-clause-levels_stay : goal.returns-in-Err-settle-clause-levels_stay
returns-in-Err-settle-clause-levels_stay g c =
    stored-levels _ _ c.self.view_is c.store.ensures.sound c.self.invariant c.encode.array_long c.requires.inside c.settle.ensures.bytes_stay c.store.result c.store.ensures.wrote

pub returns-in-Err-clause-finishes : goal.returns-in-Err-clause-finishes
returns-in-Err-clause-finishes g c =
    refused-by c.encode.new.into (g.D.Device.bytes c.args.device.now) c.self.view_is c.store.ensures.sound c.self.invariant c.encode.array_long c.requires.inside refl
    c.encode.ensures c.header_of.ensures (Unit {0}) ℕ c.in-Err.fault c.in-Err.fault c.in-Err.ensures.wrote c.in-Err.ensures.in_order

pub returns-in-Ok-settle-clause-finishes : goal.returns-in-Ok-settle-clause-finishes
returns-in-Ok-settle-clause-finishes g c =
    finishes-by c.encode.new.into (g.D.Device.bytes c.args.device.now) c.self.view_is c.store.ensures.sound c.self.invariant c.encode.array_long c.requires.inside c.settle.ensures.bytes_stay
    c.encode.ensures c.header_of.ensures {F = DeviceFault} DeviceFault (tt {0}) (Ok c.self.inside.rows) c.in-Ok.ensures.wrote

pub returns-in-Err-settle-clause-finishes : goal.returns-in-Err-settle-clause-finishes
returns-in-Err-settle-clause-finishes g c =
    finishes-by c.encode.new.into (g.D.Device.bytes c.args.device.now) c.self.view_is c.store.ensures.sound c.self.invariant c.encode.array_long c.requires.inside c.settle.ensures.bytes_stay
    c.encode.ensures c.header_of.ensures {R = ℕ} DeviceFault (tt {0}) (Err c.in-Err-settle.fault) c.in-Ok.ensures.wrote
