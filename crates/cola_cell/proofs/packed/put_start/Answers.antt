use Rattle.std.proofs.Common.{arith}
use Rattle.cola_cell.proofs.Packs.{second-put}
use Rattle.cola_cell.proofs.packed.put_start.Goals as goal

pub returns-clause-young : goal.returns-clause-young
returns-clause-young c = second-put c.args.bytes.now _ c.args.young (omega arith)
