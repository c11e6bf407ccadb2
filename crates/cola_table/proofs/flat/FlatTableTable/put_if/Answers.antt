use Rattle.std.proofs.Common.{◌≡◌, ◌≢◌, ℕ, List, Option, unwrap_or, refl, sym, ap, ◌∙◌}
use Rattle.std.proofs.lemmas.Bool.{eq-eqb, ne_eqb}
use Rattle.cola_spec.specs.Map.{Map, Shape, Other, put_outcome, put_if_outcome, after_put, after_put_if, stamp_or_zero}
use Rattle.cola_table.specs.Terms.{shape}
use Rattle.cola_table.specs.Flat.{terms_of}
use Rattle.cola_table.proofs.FlatMap.{get_map_of, no_stamps}
use Rattle.cola_table.proofs.flat.FlatTableTable.put_if.Goals as goal

-- another stamp than the one seen
other_outcome : (shape : Shape) (m : Map) (key : List ℕ) (stamp seen : ℕ) → stamp_or_zero m key ≡ stamp → stamp ≢ seen → put_if_outcome shape m key seen ≡ Other stamp
other_outcome shape m key stamp seen is differs = rw (is, ne_eqb stamp seen differs) refl

after_other : (shape : Shape) (m : Map) (key value : List ℕ) (stamp seen : ℕ) → stamp_or_zero m key ≡ stamp → stamp ≢ seen → after_put_if shape m key seen value ≡ m
after_other shape m key value stamp seen is differs = rw (other_outcome shape m key stamp seen is differs) refl

-- the stamp seen
same_outcome : (shape : Shape) (m : Map) (key : List ℕ) (seen : ℕ) → stamp_or_zero m key ≡ seen → put_if_outcome shape m key seen ≡ put_outcome shape m key
same_outcome shape m key seen is = rw (is, eq-eqb seen seen refl) refl

after_same : (shape : Shape) (m : Map) (key value : List ℕ) (seen : ℕ) → stamp_or_zero m key ≡ seen → after_put_if shape m key seen value ≡ after_put shape m key value
after_same shape m key value seen is = rw (same_outcome shape m key seen is) refl

pub stamp_of-requires-clause-unstamped : goal.stamp_of-requires-clause-unstamped
stamp_of-requires-clause-unstamped g c = no_stamps _ _ c.self.invariant

pub returns-then-stamp-seen-clause-answer : goal.returns-then-stamp-seen-clause-answer
returns-then-stamp-seen-clause-answer g c m is =
    let sh : Shape = shape (terms_of c.args.self.now) in
    let stamp : stamp_or_zero m c.args.key.now ≡ c.unwrap_or-stamp.result = rw (is, ← c.self.view_is, get_map_of _ c.self.invariant.rising) (sym (c.unwrap_or-stamp.ensures ∙ ap (λ (o : Option ℕ). unwrap_or o 0) c.stamp_of.ensures)) in
    (sym (other_outcome sh m c.args.key.now _ c.args.seen stamp c.if-stamp-seen.true), after_other sh m c.args.key.now c.args.value.now _ c.args.seen stamp c.if-stamp-seen.true ∙ is)

pub returns-in-Ok-clause-answer : goal.returns-in-Ok-clause-answer
returns-in-Ok-clause-answer g c m is =
    let sh : Shape = shape (terms_of c.args.self.now) in
    let stamp : stamp_or_zero m c.args.key.now ≡ c.args.seen = rw (is, ← c.self.view_is, get_map_of _ c.self.invariant.rising) (sym (c.unwrap_or-stamp.ensures ∙ ap (λ (o : Option ℕ). unwrap_or o 0) c.stamp_of.ensures) ∙ c.if-stamp-seen.false) in
    let put = c.in-Ok.ensures.answer m is in
    (c.from.ensures ∙ put.0 ∙ sym (same_outcome sh m c.args.key.now c.args.seen stamp), after_same sh m c.args.key.now c.args.value.now c.args.seen stamp ∙ put.1)

pub returns-in-Err-clause-answer : goal.returns-in-Err-clause-answer
returns-in-Err-clause-answer g c m is =
    let sh : Shape = shape (terms_of c.args.self.now) in
    let stamp : stamp_or_zero m c.args.key.now ≡ c.args.seen = rw (is, ← c.self.view_is, get_map_of _ c.self.invariant.rising) (sym (c.unwrap_or-stamp.ensures ∙ ap (λ (o : Option ℕ). unwrap_or o 0) c.stamp_of.ensures) ∙ c.if-stamp-seen.false) in
    rw (same_outcome sh m c.args.key.now c.args.seen stamp) (c.in-Err.ensures.answer m is)
