use Rattle.std.proofs.Common.{◌≡◌, None, sym, subst, ◌∙◌}
use Rattle.cola_spec.specs.Map.{Map, value_of}
use Rattle.cola_store.specs.Store.{Holds, geometry_of}
use Rattle.cola_store.specs.Calls.{value_found}
use Rattle.cola_store.proofs.Storing.{value-found}
use Rattle.cola_store.proofs.Putting.{held-value, absent-delete}
use Rattle.cola_store.proofs.store.Store.delete_found.Goals as goal

pub returns-in-None-clause-answer : goal.returns-in-None-clause-answer
returns-in-None-clause-answer g c = λ m h is.
    let q = geometry_of c.args.self.now in
    let held = held-value q.format q.keys m c.args.key.now (value_found c.args.found.now) h.is_map (value-found m c.args.key.now c.args.found.now is) in
    let absent : value_of m c.args.key.now ≡ None = sym (c.held_value.ensures.value ∙ held) ∙ c.in-None.is in
    (sym absent, subst (λ (n : Map). Holds g.D.Device.bytes c.args.self.now n) (sym (absent-delete m c.args.key.now absent)) h)
