use Rattle.std.proofs.Common.{sym, subst, List, ℕ, Option, ◌≡◌, ◌++◌, ◌-◌, length, replicate, Ok, arith}
use Rattle.std.specs.Prelude.{IfSome}
use Rattle.cola_device.specs.declared.device.DeviceFault.{DeviceFault}
use Rattle.cola_device.proofs.ToldLemmas.{HasRange-LaidOut}
use Rattle.cola_device.proofs.SettlingLemmas.{settled-by}
use Rattle.cola_store.proofs.Filled.{AtMost, laid_at_most, wrote_at_most, filled, on_ok}
use Rattle.cola_store.proofs.new_file.fill.Goals as goal

pub returns-clause-filled : goal.returns-clause-filled
returns-clause-filled g c =
    let told = g.D.Device.bytes in
    let header = c.args.header.now in
    on_ok c.settle.result
    (subst (λ (now : Option (List ℕ)). IfSome now (λ bytes. bytes ≡ header ++ replicate (c.args.size - 512) 0)) (sym c.settle.ensures.bytes_stay)
    (filled DeviceFault c.in_ok-lay_out.field-0 c.in_ok-write.field-0 c.args.size header (told c.args.device.now) (told c.lay_out.new.self) (told c.write.new.self) c.told-header c.in_ok-lay_out.ensures.laid c.in_ok-write.ensures.wrote))

pub returns-clause-settled : goal.returns-clause-settled
returns-clause-settled g c = settled-by g.D.Device c.settle.result c.write.new.self c.settle.new.self c.settle.ensures.settled c.settle.ensures.bytes_stay

pub returns-clause-left : goal.returns-clause-left
returns-clause-left g c =
    let told = g.D.Device.bytes in
    let laid = laid_at_most {E = DeviceFault} (Ok c.in_ok-lay_out.field-0) c.args.size (told c.args.device.now) (told c.lay_out.new.self) c.in_ok-lay_out.ensures.laid in
    subst (λ (now : Option (List ℕ)). AtMost c.args.size (told c.args.device.now) now) (sym c.settle.ensures.bytes_stay)
    (wrote_at_most {E = DeviceFault} (Ok c.in_ok-write.field-0) c.args.size 0 c.args.header.now (told c.args.device.now) (told c.lay_out.new.self) (told c.write.new.self) laid
    (HasRange-LaidOut {E = DeviceFault} (Ok c.in_ok-lay_out.field-0) c.args.size (told c.args.device.now) (told c.lay_out.new.self) 0 (length c.args.header.now) c.in_ok-lay_out.ensures.laid (omega (arith, c.told-header, c.requires.room)))
    c.in_ok-write.ensures.wrote)
