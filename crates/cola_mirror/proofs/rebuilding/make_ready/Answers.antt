use Rattle.std.proofs.Common.{◌∙◌, ℕ, List, Option, Ok, subst, arith}
use Rattle.cola_device.specs.declared.device.DeviceFault.{DeviceFault}
use Rattle.cola_device.specs.Bytes.{HasSize, LaidOut}
use Rattle.cola_opening.proofs.Spending.{called-spends, spends-then}
use Rattle.cola_mirror.proofs.RebuildLemmas.{ready-laid, ready-was, two-ready}
use Rattle.cola_mirror.proofs.rebuilding.make_ready.Goals as goal

pub returns-in-Ok-lay_out : goal.returns-in-Ok-lay_out
returns-in-Ok-lay_out g c =
    let before = g.E.Device.bytes c.args.to.now in
    let now = g.E.Device.bytes c.lay_out.new.self in
    let none : HasSize before 0 = subst (λ (n : ℕ). HasSize before n) c.if-many-ne0.false c.in-Ok.ensures.value in
    let laid : LaidOut {T = Unit {0}} {E = DeviceFault} (Ok c.in-Ok-lay_out.field-0) c.args.size before now = subst (λ (t : Option (List ℕ)). LaidOut {T = Unit {0}} {E = DeviceFault} (Ok c.in-Ok-lay_out.field-0) c.args.size t now) c.size.ensures.bytes_stay c.in-Ok-lay_out.ensures.laid in
    record {
      begun = ready-laid DeviceFault c.in-Ok-lay_out.field-0 c.args.size before now c.requires none laid;
      was = ready-was c.args.size before none;
      kept = c.lay_out.ensures.kept ∙ c.size.ensures.kept;
      spends = spends-then (called-spends c.in-Ok.ensures.counts) (called-spends c.in-Ok-lay_out.ensures.counts) (omega arith) (omega arith) (two-ready before none);
      no_fault = c.in-Ok-lay_out.ensures.counts.none_hidden ∙ c.in-Ok.ensures.counts.none_hidden;
    }
