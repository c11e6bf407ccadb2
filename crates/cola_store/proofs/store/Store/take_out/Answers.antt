use Rattle.std.proofs.Common.{ℕ, ◌-◌, ap, sym, ◌∙◌}
use Rattle.cola_spec.specs.Map.{after_delete}
use Rattle.cola_spec.proofs.MapLaws.{after_delete_is_map}
use Rattle.cola_table.specs.Terms.{shape}
use Rattle.cola_mutation.proofs.MapLemmas.{found-delete}
use Rattle.cola_store.specs.Store.{terms_of}
use Rattle.cola_store.proofs.Putting.{fewer-keys}
use Rattle.cola_store.proofs.store.Store.take_out.Goals as goal

pub returns-in-Ok-clause-answer : goal.returns-in-Ok-clause-answer
returns-in-Ok-clause-answer g c = λ m h is. (
  sym is,
  c.in-Ok.ensures.right m (after_delete m c.args.key.now) h (after_delete_is_map (shape (terms_of c.args.self.now)) m c.args.key.now h.is_map) (found-delete m c.args.key.now)
      (c.saturating_sub-after.ensures ∙ ap (λ (n : ℕ). n - 1) (c.keys_now.ensures.value ∙ h.counted) ∙ sym (fewer-keys m c.args.key.now c.args.value.now is))
      (c.last_number-last.ensures.value ∙ h.numbered),
)

pub returns-in-Err-clause-answer : goal.returns-in-Err-clause-answer
returns-in-Err-clause-answer g c = λ m h is.
    c.in-Err.ensures.right m (after_delete m c.args.key.now) h (after_delete_is_map (shape (terms_of c.args.self.now)) m c.args.key.now h.is_map) (found-delete m c.args.key.now)
    (c.saturating_sub-after.ensures ∙ ap (λ (n : ℕ). n - 1) (c.keys_now.ensures.value ∙ h.counted) ∙ sym (fewer-keys m c.args.key.now c.args.value.now is))
    (c.last_number-last.ensures.value ∙ h.numbered)
