use Rattle.std.proofs.Common.{◌≤◌, ◌+◌, ℕ, List, Some, Ok, length, sym, subst}
use Rattle.cola_outside.specs.Told.{Both}
use Rattle.cola_device.specs.declared.device.DeviceFault.{DeviceFault}
use Rattle.cola_load.specs.Filled.{Row}
use Rattle.cola_load.specs.Loading.{Loading, Pushes}
use Rattle.cola_load.proofs.Saving.{pushes-by}
use Rattle.cola_load.proofs.loader.Loader.push.Goals as goal

pub returns-in-Ok-clause-pushes : goal.returns-in-Ok-clause-pushes
returns-in-Ok-clause-pushes g c =
    let old = c.args.self.now in
    let r = c.requires in
    let mid = c.put_row.new.self in
    let told = g.D.Device.bytes c.args.device.now in
    let now = g.D.Device.bytes c.put_row.new.device in
    let row : Row = record { key = c.args.key.now; value = c.args.value.now; stamp = c.args.stamp } in
    let some : 1 ≤ length c.args.key.now = subst (λ (k : List ℕ). 1 ≤ length k) c.bytes.ensures.value c.bytes.ensures.limits.0 in
    subst (λ (z : Loading). Both told now (Pushes {T = Unit {0}} {E = DeviceFault} (Ok (tt {0})) old (record z { rows = z.rows + 1; key = Some c.args.key.now }) row)) (sym c.self.view_is)
    (pushes-by old mid row r.room some r.key r.value r.stamp r.above c.put_row.ensures.stays DeviceFault DeviceFault (tt {0}) (tt {0}) told now c.in-Ok.ensures.puts c.put_row.ensures.front_stays)
