use Rattle.std.proofs.Common.{sym, subst, ◌∙◌}
use Rattle.cola_spec.specs.Map.{Map}
use Rattle.cola_table.specs.Terms.{shape}
use Rattle.cola_store.specs.Store.{Holds, terms_of}
use Rattle.cola_store.specs.Calls.{stamped_found}
use Rattle.cola_store.proofs.Putting.{seen-outcome, seen-after}
use Rattle.cola_store.proofs.store.Store.put_if_found.Goals as goal

pub returns-in-Ok-clause-answer : goal.returns-in-Ok-clause-answer
returns-in-Ok-clause-answer g c = λ m h is.
    let s = shape (terms_of c.args.self.now) in
    let x = stamped_found c.args.found.now in
    let right = c.in-Ok.ensures.answer m h is in
    let seen = sym c.stamp_or_zero-stamp.ensures ∙ c.if-stamp-seen.false in (
      c.from.ensures ∙ right.0 ∙ sym (seen-outcome s m c.args.key.now c.args.seen x is seen),
      subst (λ (n : Map). Holds g.D.Device.bytes c.put_found.new.self n) (sym (seen-after s m c.args.key.now c.args.seen x is c.args.value.now seen)) right.1,
    )
