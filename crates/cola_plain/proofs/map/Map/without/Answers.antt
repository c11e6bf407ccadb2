use Rattle.std.proofs.Common.{[], ◌∷◌, ◌++◌, ◌≡◌, ◌∙◌, sym, ap, arith, get_or, length}
use Rattle.std.proofs.lemmas.List.{map-append}
use Rattle.cola_plain.specs.Map.{stored_with, listed}
use Rattle.cola_plain.proofs.MapLemmas.{same_left_out, other_kept_on, same_bytes, other_bytes}
use Rattle.cola_plain.proofs.map.Map.without.Goals as goal

pub loop-entry-preserved-then-eq : goal.loop-entry-preserved-then-eq
loop-entry-preserved-then-eq c =
    let here = c.entry-item.is ∙ ap (λ xs. get_or xs c.loop-entry.entry-index c.entry-item.result) c.deref-entry-items.ensures.value in
    let same = sym c.as_slice.ensures.value ∙ same_bytes c.as_slice.result.now c.args.key.now c.if-eq.ensures in
    c.loop-entry.invariant ∙ sym (same_left_out c.args.key.now c.args.self.now.entries.items c.loop-entry.entry-index c.entry-item.result (omega (arith, ap length c.deref-entry-items.ensures.value)) here same)

pub loop-entry-preserved : goal.loop-entry-preserved
loop-entry-preserved c =
    let here = c.entry-item.is ∙ ap (λ xs. get_or xs c.loop-entry.entry-index c.entry-item.result) c.deref-entry-items.ensures.value in
    let other = λ (same : c.entry-item.result.key.items ≡ c.args.key.now). other_bytes c.as_slice.result.now c.args.key.now c.if-eq.ensures (c.as_slice.ensures.value ∙ same) in
    ap listed c.in_ok-push.ensures.items
    ∙ map-append stored_with c.loop-entry.kept.items (c.in_ok-copy_of.field-0 ∷ [])
    ∙ ap (λ y. listed c.loop-entry.kept.items ++ y ∷ []) c.in_ok-copy_of.ensures
    ∙ ap (λ xs. xs ++ stored_with c.entry-item.result ∷ []) c.loop-entry.invariant
    ∙ sym (other_kept_on c.args.key.now c.args.self.now.entries.items c.loop-entry.entry-index c.entry-item.result (omega (arith, ap length c.deref-entry-items.ensures.value)) here other)
