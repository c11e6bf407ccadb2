use Rattle.std.proofs.Common.{ℕ, arith, slice_index, ap, sym, ◌∙◌}
use Rattle.std.specs.Ordering.{nat_cmp}
use Rattle.cola_cell.proofs.Packs.{front-size, key-ordered, tied, decided}
use Rattle.cola_cell.proofs.packed.key_cmp_in.Goals as goal

pub slice_bounds-words_cmp-end : goal.slice_bounds-words_cmp-end
slice_bounds-words_cmp-end c =
    front-size c.args.format c.args.bytes.now c.key_at.result c.value_at.result c.args.key.now c.room-whole.result.now c.key_at.ensures c.value_at.ensures c.requires
    c.room-whole.ensures.value (omega (arith, c.len-len.ensures.limits.1))

pub words_cmp-requires-clause-same : goal.words_cmp-requires-clause-same
words_cmp-requires-clause-same c =
    front-size c.args.format c.args.bytes.now c.key_at.result c.value_at.result c.args.key.now c.room-whole.result.now c.key_at.ensures c.value_at.ensures c.requires
    c.room-whole.ensures.value (omega (arith, c.len-len.ensures.limits.1))

pub returns-in-Equal : goal.returns-in-Equal
returns-in-Equal c =
    let ordered = key-ordered c.args.format c.args.bytes.now c.key_at.result c.value_at.result c.args.key.now c.room-whole.result.now c.key_at.ensures c.value_at.ensures c.requires
    c.room-whole.ensures.value (omega (arith, c.len-len.ensures.limits.1)) in
    c.cmp.ensures ∙ ap (λ (n : ℕ). nat_cmp (slice_index c.args.bytes.now 2) n) c.len-len.ensures.value ∙ sym (ordered ∙ tied _ _ (sym c.words_cmp.ensures ∙ c.in-Equal.is))

pub returns-in_default : goal.returns-in_default
returns-in_default c =
    let ordered = key-ordered c.args.format c.args.bytes.now c.key_at.result c.value_at.result c.args.key.now c.room-whole.result.now c.key_at.ensures c.value_at.ensures c.requires
    c.room-whole.ensures.value (omega (arith, c.len-len.ensures.limits.1)) in
    c.words_cmp.ensures ∙ sym (ordered ∙ decided _ _ (λ e. c.in_default.not-Equal (c.words_cmp.ensures ∙ e)))
