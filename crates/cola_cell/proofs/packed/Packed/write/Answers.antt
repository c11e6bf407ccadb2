use Rattle.std.proofs.Common.{length, take, ap, sym, ◌∙◌}
use Rattle.std.specs.Prelude.{ℕ}
use Rattle.cola_cell.specs.Decoded.{standing}
use Rattle.cola_cell.specs.Format.{width}
use Rattle.cola_cell.proofs.Packs.{copy-spells}
use Rattle.cola_cell.proofs.packed.Packed.write.Goals as goal

pub copy_in-requires-clause-from : goal.copy_in-requires-clause-from
copy_in-requires-clause-from c =
    ap (λ (n : ℕ). length (take n c.self.inside.bytes)) c.width.ensures ∙ c.self.invariant.size ∙ sym (ap width (c.is_same.ensures.0 c.if-is_same.true))

pub returns-then-is_same : goal.returns-then-is_same
returns-then-is_same c =
    copy-spells c.args.format c.self.inside.format (standing c.self.inside.format (take (width c.self.inside.format) c.self.inside.bytes)) c.args.self.now c.self.inside.bytes
    c.copy_in.new.into c.width.result c.self.invariant (c.is_same.ensures.0 c.if-is_same.true) c.width.ensures c.copy_in.ensures c.self.view_is
