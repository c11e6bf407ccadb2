use Rattle.std.proofs.Common.{◌≡◌, ◌∙◌, sym, ap, arith, get_or, length}
use Rattle.cola_plain.proofs.MapLemmas.{found_here, found_later, same_bytes, other_bytes}
use Rattle.cola_plain.proofs.map.Map.find.Goals as goal

pub returns-then-eq : goal.returns-then-eq
returns-then-eq c =
    let here = c.entry-item.is ∙ ap (λ xs. get_or xs c.loop-entry.entry-index c.entry-item.result) c.deref-entry-items.ensures.value in
    let same = sym c.as_slice.ensures.value ∙ same_bytes c.as_slice.result.now c.args.key.now c.if-eq.ensures in
    sym (c.loop-entry.invariant ∙ found_here c.args.key.now c.args.self.now.entries.items c.loop-entry.entry-index c.entry-item.result (omega (arith, ap length c.deref-entry-items.ensures.value)) here same)

pub loop-entry-preserved : goal.loop-entry-preserved
loop-entry-preserved c =
    let here = c.entry-item.is ∙ ap (λ xs. get_or xs c.loop-entry.entry-index c.entry-item.result) c.deref-entry-items.ensures.value in
    let other = λ (same : c.entry-item.result.key.items ≡ c.args.key.now). other_bytes c.as_slice.result.now c.args.key.now c.if-eq.ensures (c.as_slice.ensures.value ∙ same) in
    c.loop-entry.invariant ∙ found_later c.args.key.now c.args.self.now.entries.items c.loop-entry.entry-index c.entry-item.result (omega (arith, ap length c.deref-entry-items.ensures.value)) here other
