use Rattle.std.proofs.Common.{◌∙◌, sym, ap, List, ℕ, ◌&&◌}
use Rattle.std.specs.Ordering.{is_eq}
use Rattle.std.specs.Str.{bytes_eq}
use Rattle.cola_spec.specs.Map.{key_cmp}
use Rattle.cola_handle.specs.Cursors.{from_of}
use Rattle.cola_handle.proofs.Rows.{same_ties}
use Rattle.cola_handle.proofs.cursor.Cursor.has_given.Goals as goal

pub returns-then-self : goal.returns-then-self
returns-then-self c =
    let from : List ℕ = from_of c.args.self.now in
    c.eq.ensures ∙ ap (λ (k : List ℕ). bytes_eq k from) c.bytes.ensures.value ∙ same_ties c.args.key.now from
    ∙ sym (ap (λ b. b && is_eq (key_cmp from c.args.key.now)) c.if-self.true)
