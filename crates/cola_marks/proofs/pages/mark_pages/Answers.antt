use Rattle.std.proofs.Common.{⊎_elim, arith}
use Rattle.std.proofs.lemmas.Bool.{cases_lt}
use Rattle.cola_marks.proofs.pages.mark_pages.Goals as goal

pub returns-clause-marked : goal.returns-clause-marked
returns-clause-marked g c =
    let marks = c.loop-page.invariant.marks in
    let past = c.loop-page-test.false in
    let last = c.min-last.ensures in
    let pages = c.pages.ensures in
    let reach = c.loop-page.invariant.reach in
    record {
      many = marks.many;
      inside = λ page from below there. marks.inside page from (omega (arith, past, last, pages, below, there)) there;
      below = marks.below;
      above = λ page behind. ⊎_elim (λ low. marks.below page low) (λ high. marks.above page (omega (arith, reach, last, pages, behind, high))) (cases_lt page c.args.first);
    }

pub returns-clause-few : goal.returns-clause-few
returns-clause-few g c =
    let few = c.loop-page.invariant.few in
    let last = c.min-last.ensures in
    let reach = c.loop-page.invariant.reach in
    omega (arith, few, last, reach)
