use Rattle.std.proofs.Common.{sym, ◌∙◌}
use Rattle.cola_cell.specs.Decoded.{standing}
use Rattle.cola_cell.proofs.Packs.{item-value, item-tombstone, item-none}
use Rattle.cola_cell.proofs.packed.item_in.Goals as goal

pub returns-then-bytes-eq0 : goal.returns-then-bytes-eq0
returns-then-bytes-eq0 c =
    let known = item-value (standing c.args.format c.args.bytes.now) (sym c.requires.kind ∙ c.if-bytes-eq0.true) in cc

pub returns-then-bytes-eq1 : goal.returns-then-bytes-eq1
returns-then-bytes-eq1 c = item-tombstone (standing c.args.format c.args.bytes.now) (sym c.requires.kind ∙ c.if-bytes-eq1.true)

pub returns : goal.returns
returns c = item-none (standing c.args.format c.args.bytes.now) (λ e. c.if-bytes-eq0.false (c.requires.kind ∙ e)) (λ e. c.if-bytes-eq1.false (c.requires.kind ∙ e))
