use Rattle.cola_cell.specs.Decoded.{standing}
use Rattle.cola_cell.proofs.Packs.{stamp-two}
use Rattle.cola_cell.proofs.packed.stamp_there.Goals as goal

pub returns-in-Two : goal.returns-in-Two
returns-in-Two c = stamp-two c.args.format (standing c.args.format c.args.bytes.now) c.args.bytes.now c.read_u64.result c.in-Two.is c.read_u64.ensures c.requires
