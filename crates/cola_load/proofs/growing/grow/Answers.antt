-- What growing a file answers.
use Rattle.std.proofs.Common.{arith}
use Rattle.cola_load.proofs.Completing.{grown}
use Rattle.cola_load.proofs.growing.grow.Goals as goal

pub returns-clause-grows : goal.returns-clause-grows
returns-clause-grows g c =
    grown g.D.Device g.E.Device c.args.from c.read_closed.new.device c.copy_file.result.0 c.args.to.now c.copy_file.new.to c.args.steps.now c.copy_file.new.steps c.args.keys c.args.block_exp c.in-Ok.header c.geometry_for-geometry.result c.copy_file.result.1
    c.in-Ok.ensures.found.0 c.in-Ok.ensures.found.1 (let h = c.if-keys-header.false in omega (arith, h)) c.geometry_for-geometry.ensures c.copy_file.ensures.copies c.copy_file.ensures.faults c.copy_file.ensures.spent c.copy_file.ensures.beside_stays
