use Rattle.std.proofs.Common.{arith}
use Rattle.cola_cell.proofs.Packs.{checked}
use Rattle.cola_cell.proofs.packed.is_cell.Goals as goal

pub returns : goal.returns
returns c =
    checked c.args.format c.args.bytes.now c.in-Some.stamp c.key_at.result c.value_at.result c.value_at-2.result c.width.result c.requires
    (λ i. let fits = c.type_inv.bytes i in omega arith) c.key_at.ensures c.value_at.ensures c.value_at-2.ensures c.width.ensures
    c.if-bytes-eq0.false c.if-not-is_filled.ensures c.if-not-is_filled-2.ensures c.in-Some.ensures (c.is_kind.ensures.0 c.if-not-is_kind.false)
