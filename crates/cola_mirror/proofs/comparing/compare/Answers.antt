use Rattle.std.proofs.Common.{◌≡◌, ◌∙◌, ℕ, min, length, Option, Some, None, sym, ap, subst, arith}
use Rattle.cola_mirror.specs.Differ.{differ_within, IsPlace}
use Rattle.cola_mirror.proofs.ComparedLemmas.{all-same, shorter-ends, found-in_front, place-whole, only-compared}
use Rattle.cola_mirror.proofs.comparing.compare.Goals as goal

pub returns-in-Ok-Some-clause-compares : goal.returns-in-Ok-Some-clause-compares
returns-in-Ok-Some-clause-compares g c =
    let here : IsPlace g.D.Device g.E.Device c.size.new.self c.compare_pieces.new.first c.size-2.new.self c.compare_pieces.new.second (differ_within 0 c.min-shorter.result) (Some c.in-Ok-Some.place) =
    subst (λ (place : Option ℕ). IsPlace g.D.Device g.E.Device c.size.new.self c.compare_pieces.new.first c.size-2.new.self c.compare_pieces.new.second (differ_within 0 c.min-shorter.result) place) c.in-Ok-Some.field-0-is c.in-Ok-Some.ensures.compares in
    place-whole g.D.Device g.E.Device c.args.first.now c.size.new.self c.compare_pieces.new.first c.args.second.now c.size-2.new.self c.compare_pieces.new.second c.in-Ok.size c.in-Ok-size.size
    c.in-Ok.ensures.value c.in-Ok-size.ensures.value c.in-Ok.ensures.counts c.in-Ok-size.ensures.counts c.size.ensures.bytes_stay c.size-2.ensures.bytes_stay
    c.min-shorter.result (Some c.in-Ok-Some.place) (Some c.in-Ok-Some.place) c.min-shorter.ensures (λ xs ys one two found. found-in_front c.in-Ok-Some.place xs ys found) here

pub returns-in-Ok-Some-clause-only_compared : goal.returns-in-Ok-Some-clause-only_compared
returns-in-Ok-Some-clause-only_compared g c =
    only-compared g.D.Device g.E.Device c.args.first.now c.size.new.self c.compare_pieces.new.first c.args.second.now c.size-2.new.self c.compare_pieces.new.second c.in-Ok.size c.in-Ok-size.size
    c.in-Ok.ensures.value c.in-Ok-size.ensures.value c.in-Ok.ensures.counts c.in-Ok-size.ensures.counts c.size.ensures.bytes_stay c.size-2.ensures.bytes_stay
    c.min-shorter.result c.min-shorter.ensures c.size.ensures.kept c.size-2.ensures.kept c.compare_pieces.ensures.only_read

pub returns-in-Err-compare_pieces-clause-only_compared : goal.returns-in-Err-compare_pieces-clause-only_compared
returns-in-Err-compare_pieces-clause-only_compared g c =
    only-compared g.D.Device g.E.Device c.args.first.now c.size.new.self c.compare_pieces.new.first c.args.second.now c.size-2.new.self c.compare_pieces.new.second c.in-Ok.size c.in-Ok-size.size
    c.in-Ok.ensures.value c.in-Ok-size.ensures.value c.in-Ok.ensures.counts c.in-Ok-size.ensures.counts c.size.ensures.bytes_stay c.size-2.ensures.bytes_stay
    c.min-shorter.result c.min-shorter.ensures c.size.ensures.kept c.size-2.ensures.kept c.compare_pieces.ensures.only_read

pub returns-then-size-other-clause-compares : goal.returns-then-size-other-clause-compares
returns-then-size-other-clause-compares g c =
    let here : IsPlace g.D.Device g.E.Device c.size.new.self c.compare_pieces.new.first c.size-2.new.self c.compare_pieces.new.second (differ_within 0 c.min-shorter.result) None =
    subst (λ (place : Option ℕ). IsPlace g.D.Device g.E.Device c.size.new.self c.compare_pieces.new.first c.size-2.new.self c.compare_pieces.new.second (differ_within 0 c.min-shorter.result) place) c.in-Ok-None.field-0-is c.in-Ok-None.ensures.compares in
    place-whole g.D.Device g.E.Device c.args.first.now c.size.new.self c.compare_pieces.new.first c.args.second.now c.size-2.new.self c.compare_pieces.new.second c.in-Ok.size c.in-Ok-size.size
    c.in-Ok.ensures.value c.in-Ok-size.ensures.value c.in-Ok.ensures.counts c.in-Ok-size.ensures.counts c.size.ensures.bytes_stay c.size-2.ensures.bytes_stay
    c.min-shorter.result None None c.min-shorter.ensures (λ xs ys one two none. all-same xs ys (sym one ∙ (c.if-size-other.true ∙ two)) none) here

pub returns-then-size-other-clause-only_compared : goal.returns-then-size-other-clause-only_compared
returns-then-size-other-clause-only_compared g c =
    only-compared g.D.Device g.E.Device c.args.first.now c.size.new.self c.compare_pieces.new.first c.args.second.now c.size-2.new.self c.compare_pieces.new.second c.in-Ok.size c.in-Ok-size.size
    c.in-Ok.ensures.value c.in-Ok-size.ensures.value c.in-Ok.ensures.counts c.in-Ok-size.ensures.counts c.size.ensures.bytes_stay c.size-2.ensures.bytes_stay
    c.min-shorter.result c.min-shorter.ensures c.size.ensures.kept c.size-2.ensures.kept c.compare_pieces.ensures.only_read

pub returns-clause-compares : goal.returns-clause-compares
returns-clause-compares g c =
    let here : IsPlace g.D.Device g.E.Device c.size.new.self c.compare_pieces.new.first c.size-2.new.self c.compare_pieces.new.second (differ_within 0 c.min-shorter.result) None =
    subst (λ (place : Option ℕ). IsPlace g.D.Device g.E.Device c.size.new.self c.compare_pieces.new.first c.size-2.new.self c.compare_pieces.new.second (differ_within 0 c.min-shorter.result) place) c.in-Ok-None.field-0-is c.in-Ok-None.ensures.compares in
    place-whole g.D.Device g.E.Device c.args.first.now c.size.new.self c.compare_pieces.new.first c.args.second.now c.size-2.new.self c.compare_pieces.new.second c.in-Ok.size c.in-Ok-size.size
    c.in-Ok.ensures.value c.in-Ok-size.ensures.value c.in-Ok.ensures.counts c.in-Ok-size.ensures.counts c.size.ensures.bytes_stay c.size-2.ensures.bytes_stay
    c.min-shorter.result None (Some c.min-shorter.result) c.min-shorter.ensures
    (λ xs ys one two none. ap (λ (n : ℕ). Some n) (let e : c.min-shorter.result ≡ min (length xs) (length ys) = omega (arith, c.min-shorter.ensures, one, two) in e) ∙ shorter-ends xs ys (λ same. c.if-size-other.false (one ∙ (same ∙ sym two))) none) here

pub returns-clause-only_compared : goal.returns-clause-only_compared
returns-clause-only_compared g c =
    only-compared g.D.Device g.E.Device c.args.first.now c.size.new.self c.compare_pieces.new.first c.args.second.now c.size-2.new.self c.compare_pieces.new.second c.in-Ok.size c.in-Ok-size.size
    c.in-Ok.ensures.value c.in-Ok-size.ensures.value c.in-Ok.ensures.counts c.in-Ok-size.ensures.counts c.size.ensures.bytes_stay c.size-2.ensures.bytes_stay
    c.min-shorter.result c.min-shorter.ensures c.size.ensures.kept c.size-2.ensures.kept c.compare_pieces.ensures.only_read
