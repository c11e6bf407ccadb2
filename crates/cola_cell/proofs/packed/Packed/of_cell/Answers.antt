use Rattle.cola_cell.proofs.Packs.{made-spells, made-is}
use Rattle.cola_cell.proofs.packed.Packed.of_cell.Goals as goal

pub invariant_of-result : goal.invariant_of-result
invariant_of-result c = made-spells c.args.format c.args.cell.now c.encode_in.new.into _ c.encode_in.ensures

pub returns : goal.returns
returns c = made-is c.args.format c.args.cell.now c.encode_in.new.into _ c.encode_in.ensures
