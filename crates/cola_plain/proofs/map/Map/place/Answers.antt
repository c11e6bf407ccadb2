use Rattle.std.proofs.Common.{◌∙◌, ap, arith, get_or, length}
use Rattle.cola_spec.specs.Map.{key_cmp}
use Rattle.cola_plain.proofs.MapLemmas.{placed_here, placed_before}
use Rattle.cola_plain.proofs.map.Map.place.Goals as goal

pub returns-in-Less : goal.returns-in-Less
returns-in-Less c new =
    let here = c.entry-item.is ∙ ap (λ xs. get_or xs c.loop-i.i c.entry-item.result) c.deref-entry-items.ensures.value in
    placed_before c.args.key.now new c.args.self.now.entries.items c.loop-i.i c.entry-item.result (omega (arith, ap length c.deref-entry-items.ensures.value)) here (c.in-Less.ensures ∙ ap (key_cmp c.args.key.now) c.as_slice.ensures.value) (c.loop-i.invariant new)

pub returns-in-Equal : goal.returns-in-Equal
returns-in-Equal c new =
    let here = c.entry-item.is ∙ ap (λ xs. get_or xs c.loop-i.i c.entry-item.result) c.deref-entry-items.ensures.value in
    placed_here c.args.key.now new c.args.self.now.entries.items c.loop-i.i c.entry-item.result (omega (arith, ap length c.deref-entry-items.ensures.value)) here (c.in-Equal.ensures ∙ ap (key_cmp c.args.key.now) c.as_slice.ensures.value) (c.loop-i.invariant new)
