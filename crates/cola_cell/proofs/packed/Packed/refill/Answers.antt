use Rattle.cola_cell.proofs.Packs.{copied}
use Rattle.cola_cell.proofs.packed.Packed.refill.Goals as goal

pub invariant_of-self : goal.invariant_of-self
invariant_of-self c = (copied c.args.format c.args.bytes.now c.copy_in.new.into _ c.if-not-is_cell.ensures c.copy_in.ensures).0

pub returns-clause-cell : goal.returns-clause-cell
returns-clause-cell c = (copied c.args.format c.args.bytes.now c.copy_in.new.into _ c.if-not-is_cell.ensures c.copy_in.ensures).1
