use Rattle.std.proofs.Common.{◌≤◌, ◌≡◌, length, refl, sym, ◌∙◌, arith, below_more}
use Rattle.std.proofs.lemmas.Bool.{false≢true}
use Rattle.cola_clock.proofs.MarkLaws.{marks-each, marks-all}
use Rattle.cola_layout.specs.Marks.{FitsAt, all_numbers}
use Rattle.cola_layout.proofs.Levels.{numbers-length}
use Rattle.cola_layout.proofs.marks.levels_fit.Goals as goal

pub loop-level-preserved : goal.loop-level-preserved
loop-level-preserved c =
    below_more (FitsAt c.args.clock c.args.levels.now) c.loop-level.level c.loop-level.invariant
    (c.level_fits.ensures.0 c.if-not-level_fits.false)

pub returns-then-not-level_fits : goal.returns-then-not-level_fits
returns-then-not-level_fits c =
    let size : length (all_numbers c.args.levels.now) ≡ length c.args.levels.now = numbers-length c.args.levels.now in (
      (λ h. absurd (false≢true h)),
      (λ fit. absurd (false≢true (sym c.if-not-level_fits.true ∙ c.level_fits.ensures.1 (marks-each c.args.clock (all_numbers c.args.levels.now) fit c.loop-level.level (omega arith))))),
    )

pub returns-else-not-level_fits : goal.returns-else-not-level_fits
returns-else-not-level_fits c =
    let all = below_more (FitsAt c.args.clock c.args.levels.now) c.loop-level.level c.loop-level.invariant
    (c.level_fits.ensures.0 c.if-not-level_fits.false) in
    let last : c.args.bottom ≤ c.loop-level.level = omega arith in
    let size : length (all_numbers c.args.levels.now) ≡ length c.args.levels.now = numbers-length c.args.levels.now in
    ((λ _. marks-all c.args.clock (all_numbers c.args.levels.now) (λ j within. all j (omega arith))), (λ _. refl))
