use Rattle.std.proofs.Common.{arith}
use Rattle.cola_cell.proofs.Reading.{stamp-read}
use Rattle.cola_cell.proofs.spelling.stamp_in.Goals as goal

pub returns : goal.returns
returns c =
    stamp-read c.args.format c.args.bytes.now c.read_u64-stamp.result c.in_default.is c.requires (λ i. let fits = c.type_inv.bytes i in omega arith)
    c.read_u64-stamp.ensures c.if-stamp-gt-LAST_STAMP.false
