use Rattle.std.proofs.Common.{ℕ, Err, subst}
use Rattle.cola_layout.specs.Fields.{fields_of}
use Rattle.cola_wide.specs.declared.fault.UpgradeFault.TheVariants.{OutOfMemory}
use Rattle.cola_wide.specs.Copied.{wide_size}
use Rattle.cola_wide.specs.Upgrade.{IsLaidOut}
use Rattle.cola_wide.proofs.Whole.{not-found, no-memory, not-laid, upgraded, no-write, done, closed-range, begun-laid}
use Rattle.cola_wide.proofs.upgrading.upgrade.Goals as goal

pub returns-in-Err-clause-upgraded : goal.returns-in-Err-clause-upgraded
returns-in-Err-clause-upgraded g c = not-found g.D.Device g.E.Device c.args.from.now c.read_closed.new.from c.args.to.now c.read_closed.new.head c.in-Err.fault c.in-Err.ensures.found

pub returns-in-Err-clause-no_write : goal.returns-in-Err-clause-no_write
returns-in-Err-clause-no_write g c =
    no-write g.D.Device g.E.Device c.args.from.now c.read_closed.new.from c.args.to.now c.args.to.now (Err c.in-Err.fault) (returns-in-Err-clause-upgraded g c)

pub returns-in-Err-clause-complete : goal.returns-in-Err-clause-complete
returns-in-Err-clause-complete g c = λ m can.
    done g.D.Device g.E.Device c.args.from.now c.read_closed.new.from c.args.to.now c.args.to.now (Err c.in-Err.fault) m (returns-in-Err-clause-upgraded g c) can

pub returns-in-Err-make_blocks-clause-upgraded : goal.returns-in-Err-make_blocks-clause-upgraded
returns-in-Err-make_blocks-clause-upgraded g c =
    no-memory g.D.Device g.E.Device c.args.from.now c.read_closed.new.from c.args.to.now c.in-Ok.header c.read_closed.new.head c.in-Ok.ensures.found.0

pub returns-in-Err-make_blocks-clause-no_write : goal.returns-in-Err-make_blocks-clause-no_write
returns-in-Err-make_blocks-clause-no_write g c =
    no-write g.D.Device g.E.Device c.args.from.now c.read_closed.new.from c.args.to.now c.args.to.now (Err OutOfMemory) (returns-in-Err-make_blocks-clause-upgraded g c)

pub returns-in-Err-lay_out-clause-upgraded : goal.returns-in-Err-lay_out-clause-upgraded
returns-in-Err-lay_out-clause-upgraded g c =
    not-laid g.D.Device g.E.Device c.args.from.now c.read_closed.new.from c.args.to.now c.in-Ok.header c.read_closed.new.head c.in-Ok.ensures.found.0 c.lay_out.new.to c.size_of_copy.result c.in-Err-lay_out.fault c.size_of_copy.ensures c.in-Err-lay_out.ensures.laid

pub returns-in-Err-lay_out-clause-no_write : goal.returns-in-Err-lay_out-clause-no_write
returns-in-Err-lay_out-clause-no_write g c =
    no-write g.D.Device g.E.Device c.args.from.now c.read_closed.new.from c.args.to.now c.lay_out.new.to (Err c.in-Err-lay_out.fault) (returns-in-Err-lay_out-clause-upgraded g c)

pub returns-in-Err-lay_out-clause-complete : goal.returns-in-Err-lay_out-clause-complete
returns-in-Err-lay_out-clause-complete g c = λ m can.
    done g.D.Device g.E.Device c.args.from.now c.read_closed.new.from c.args.to.now c.lay_out.new.to (Err c.in-Err-lay_out.fault) m (returns-in-Err-lay_out-clause-upgraded g c) can

pub copy_all-requires-clause-whole : goal.copy_all-requires-clause-whole
copy_all-requires-clause-whole g c =
    closed-range (fields_of c.in-Ok.header) c.read_closed.new.head (g.D.Device.bytes c.args.from.now) (g.D.Device.bytes c.read_closed.new.from) c.in-Ok.ensures.found.1.1.0 c.read_closed.ensures.bytes_stay c.in-Ok.ensures.found.0.why_is

pub copy_all-requires-clause-begun : goal.copy_all-requires-clause-begun
copy_all-requires-clause-begun g c =
    let laid : IsLaidOut g.E.Device (wide_size (fields_of c.in-Ok.header)) c.args.to.now c.lay_out.new.to = subst (λ (n : ℕ). IsLaidOut g.E.Device n c.args.to.now c.lay_out.new.to) c.size_of_copy.ensures c.in-Ok-lay_out.ensures.laid in
    begun-laid c.in-Ok.header (g.E.Device.bytes c.lay_out.new.to) laid.zero

pub returns-clause-upgraded : goal.returns-clause-upgraded
returns-clause-upgraded g c =
    let laid : IsLaidOut g.E.Device (wide_size (fields_of c.in-Ok.header)) c.args.to.now c.lay_out.new.to = subst (λ (n : ℕ). IsLaidOut g.E.Device n c.args.to.now c.lay_out.new.to) c.size_of_copy.ensures c.in-Ok-lay_out.ensures.laid in
    upgraded g.D.Device g.E.Device c.args.from.now c.read_closed.new.from c.args.to.now c.in-Ok.header c.read_closed.new.head c.in-Ok.ensures.found.0 c.copy_all.new.from c.lay_out.new.to c.copy_all.new.to c.set_version.new.head
    c.read_closed.ensures.bytes_stay laid c.in-Ok.ensures.found.1.1.0 c.set_version.ensures c.copy_all.result c.copy_all.ensures.copied

pub returns-clause-no_write : goal.returns-clause-no_write
returns-clause-no_write g c =
    no-write g.D.Device g.E.Device c.args.from.now c.copy_all.new.from c.args.to.now c.copy_all.new.to c.copy_all.result (returns-clause-upgraded g c)

pub returns-clause-complete : goal.returns-clause-complete
returns-clause-complete g c = λ m can.
    done g.D.Device g.E.Device c.args.from.now c.copy_all.new.from c.args.to.now c.copy_all.new.to c.copy_all.result m (returns-clause-upgraded g c) can
