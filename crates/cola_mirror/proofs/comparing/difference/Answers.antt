use Rattle.std.proofs.Common.{◌≡◌, ◌∙◌, ℕ, List, Some, get_or, sym, ap, arith, take_all}
use Rattle.std.specs.Prelude.{slice_get}
use Rattle.std.proofs.lemmas.Option.{slice_get-get_or}
use Rattle.cola_mirror.proofs.DifferLemmas.{difference-none, differ-some}
use Rattle.cola_mirror.specs.Differ.{first_difference}
use Rattle.cola_mirror.proofs.comparing.difference.Goals as goal

pub returns-then-first-place-clause-is : goal.returns-then-first-place-clause-is
returns-then-first-place-clause-is c =
    let one : slice_get c.args.first.now c.loop-place.place ≡ Some (get_or c.args.first.now c.loop-place.place 0) = slice_get-get_or c.args.first.now c.loop-place.place 0 (omega arith) in
    let two : slice_get c.args.second.now c.loop-place.place ≡ Some (get_or c.args.second.now c.loop-place.place 0) = slice_get-get_or c.args.second.now c.loop-place.place 0 (omega arith) in
    sym (differ-some c.args.first.now c.args.second.now c.loop-place.place (record { same = c.loop-place.invariant; differ = λ same. c.if-first-place.true (let e : Some (get_or c.args.first.now c.loop-place.place 0) ≡ Some (get_or c.args.second.now c.loop-place.place 0) = sym one ∙ (same ∙ two) in cc) }))

pub returns-clause-is : goal.returns-clause-is
returns-clause-is c =
    let same : c.args.first.now ≡ c.args.second.now = sym (take_all c.loop-place.place c.args.first.now (omega arith)) ∙ (c.loop-place.invariant ∙ take_all c.loop-place.place c.args.second.now (omega arith)) in
    sym (ap (λ (zs : List ℕ). first_difference c.args.first.now zs) (sym same) ∙ difference-none c.args.first.now)
