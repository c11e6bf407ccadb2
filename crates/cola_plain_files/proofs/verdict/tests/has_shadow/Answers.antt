use Rattle.std.proofs.Common.{◌≡◌, ◌↔◌, IsTrue, true, false, ap, ◌∙◌}
use Rattle.std.proofs.lemmas.Result.{IfOk-weaker}
use Rattle.cola_clock.specs.Clock.{period, is_odd, works, is_over}
use Rattle.cola_laws.specs.Chain.{part_of, next_runs}
use Rattle.cola_plain_runs.specs.Runs.{as_run, as_part}
use Rattle.cola_plain_files.specs.Levels.{as_level, as_levels, IsLevelCut}
use Rattle.cola_verdict.specs.Tests.{HasShadow, IsShadowFinished}
use Rattle.cola_plain_files.proofs.Tests.{over_of_after, works_of_inside, false_of, shadow_inside, shadow_behind}
use Rattle.cola_plain_files.proofs.verdict.tests.has_shadow.Goals as goal

pub returns-in_ok-keys-in-Inside : goal.returns-in_ok-keys-in-Inside
returns-in_ok-keys-in-Inside c =
    let most = c.args.most in let t = c.args.clock in let j = c.args.number in
    let works_here : works t j ≡ true = works_of_inside t j _ c.phase.result c.phase.ensures.value c.in-Inside.is in
    let not_over : is_over t j ≡ false = false_of (is_over t j) (λ o. let a = c.phase.ensures.after o in let b = c.in-Inside.is in cc) in
    IfOk-weaker c.is_cut.result (λ holds. IsTrue holds ↔ IsLevelCut (as_part c.part_of-part.result) (as_run c.args.above.now) (as_level c.args.level.now) c.as_slice.result.now)
    (λ holds. IsTrue holds ↔ HasShadow most t j (as_run c.args.above.now) (as_level c.args.level.now) (as_levels c.args.below.now))
    (λ holds h. shadow_inside most t j (as_run c.args.above.now) (as_level c.args.level.now) (as_levels c.args.below.now) holds works_here not_over (as_part c.part_of-part.result) c.as_slice.result.now
    (c.part_of-part.ensures ∙ ap (λ odd. part_of odd (as_levels c.args.below.now)) c.is_odd.ensures) (c.as_slice.ensures.value ∙ c.in_ok-keys-in-Inside.ensures.keys) h)
    c.is_cut.ensures

pub returns-in-After : goal.returns-in-After
returns-in-After c =
    let most = c.args.most in let t = c.args.clock in let j = c.args.number in
    let over : is_over t j ≡ true = over_of_after t j c.phase.result c.phase.ensures.value c.in-After.is in
    let rests : works t j ≡ false = false_of (works t j) (λ w. let a = c.phase.ensures.inside w in let b = c.in-After.is in cc) in
    IfOk-weaker c.is_finished.result
    (λ holds. IsTrue holds ↔ IsShadowFinished most (is_odd (period t j)) j (as_run c.args.above.now) (as_level c.args.level.now) (as_levels c.args.below.now) (next_runs t j (as_levels c.args.below.now)))
    (λ holds. IsTrue holds ↔ HasShadow most t j (as_run c.args.above.now) (as_level c.args.level.now) (as_levels c.args.below.now))
    (λ holds h. shadow_behind most t j (as_run c.args.above.now) (as_level c.args.level.now) (as_levels c.args.below.now) holds rests over h) c.is_finished.ensures
