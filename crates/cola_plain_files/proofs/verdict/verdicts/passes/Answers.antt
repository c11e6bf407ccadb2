use Rattle.std.proofs.Common.{◌↔◌, ◌-◌, List, IsTrue, IfOk, sym, ap, subst, ◌∙◌, arith}
use Rattle.cola_clock.specs.Clock.{period, is_odd}
use Rattle.cola_cell.specs.Held.{LawCell}
use Rattle.cola_laws.specs.Chain.{visibles}
use Rattle.cola_plain_runs.specs.Runs.{as_run}
use Rattle.cola_plain_files.specs.declared.verdict.level.PlainLevel.{PlainLevel}
use Rattle.cola_plain_files.specs.declared.verdict.verdicts.LevelTest.{LevelTest}
use Rattle.cola_plain_files.specs.Levels.{as_level, as_levels, HasFewFrom}
use Rattle.cola_plain_files.specs.Tests.{PassesAt}
use Rattle.cola_verdict.specs.Tests.{IsInOrder, HasSample, HasFew, HasShadow, level_at}
use Rattle.cola_plain_files.proofs.Levels.{at_level, from_level, level_visible, shadow_here}
use Rattle.cola_plain_files.proofs.verdict.verdicts.passes.Goals as goal

pub returns-in-Order : goal.returns-in-Order
returns-in-Order c =
    subst (λ (test : LevelTest). IsTrue c.is_well_formed.result ↔ PassesAt test c.args.most c.args.clock (as_levels c.args.levels.now) c.args.number) (sym c.in-Order.is)
    (at_level c.args.levels.now c.args.number c.index-levels-number.result c.requires.within c.index-levels-number.is c.rest_of-below.result.now c.rest_of-below.ensures
    (λ level below. IsTrue c.is_well_formed.result ↔ IsInOrder level.visible)
    (subst (λ (run : List LawCell). IsTrue c.is_well_formed.result ↔ IsInOrder run) (ap as_run c.as_slice.ensures.value) c.is_well_formed.ensures))

pub returns-in-Sample : goal.returns-in-Sample
returns-in-Sample c =
    subst (λ (test : LevelTest). IfOk c.has_sample.result (λ holds. IsTrue holds ↔ PassesAt test c.args.most c.args.clock (as_levels c.args.levels.now) c.args.number)) (sym c.in-Sample.is)
    (at_level c.args.levels.now c.args.number c.index-levels-number.result c.requires.within c.index-levels-number.is c.rest_of-below.result.now c.rest_of-below.ensures
    (λ level below. IfOk c.has_sample.result (λ holds. IsTrue holds ↔ HasSample level.visible (visibles below))) c.has_sample.ensures)

pub returns-in-Length : goal.returns-in-Length
returns-in-Length c =
    subst (λ (test : LevelTest). IsTrue c.has_few.result ↔ PassesAt test c.args.most c.args.clock (as_levels c.args.levels.now) c.args.number) (sym c.in-Length.is)
    (at_level c.args.levels.now c.args.number c.index-levels-number.result c.requires.within c.index-levels-number.is c.rest_of-below.result.now c.rest_of-below.ensures
    (λ level below. IsTrue c.has_few.result ↔ HasFew c.args.most (is_odd (period c.args.clock c.args.number)) c.args.number level.visible below)
    (subst (λ odd. IsTrue c.has_few.result ↔ HasFew c.args.most odd c.args.number (as_run c.index-levels-number.result.visible.items) (as_levels c.rest_of-below.result.now)) c.is_odd.ensures
    (subst (λ (run : List LawCell). IsTrue c.has_few.result ↔ HasFew c.args.most c.is_odd.result c.args.number run (as_levels c.rest_of-below.result.now)) (ap as_run c.as_slice-run.ensures.value) c.has_few.ensures)))

pub returns-else-number-eq0 : goal.returns-else-number-eq0
returns-else-number-eq0 c =
    subst (λ (test : LevelTest). IfOk c.has_shadow.result (λ holds. IsTrue holds ↔ PassesAt test c.args.most c.args.clock (as_levels c.args.levels.now) c.args.number)) (sym c.in-Shadow.is)
    (shadow_here c.has_shadow.result c.args.most c.args.clock c.args.number (c.args.number - 1) (as_levels c.args.levels.now) (omega arith)
    (at_level c.args.levels.now c.args.number c.index-levels-number.result c.requires.within c.index-levels-number.is c.rest_of-below.result.now c.rest_of-below.ensures
    (λ level below. IfOk c.has_shadow.result (λ holds. IsTrue holds ↔ HasShadow c.args.most c.args.clock c.args.number (level_at (as_levels c.args.levels.now) (c.args.number - 1)).visible level below))
    (subst (λ (run : List LawCell). IfOk c.has_shadow.result (λ holds. IsTrue holds ↔ HasShadow c.args.most c.args.clock c.args.number run (as_level c.index-levels-number.result) (as_levels c.rest_of-below.result.now)))
    (level_visible c.args.levels.now (c.args.number - 1) c.index-levels-number-in-Shadow.result (as_run c.as_slice-above.result.now) (omega (arith, c.requires.within)) c.index-levels-number-in-Shadow.is
    (ap as_run c.as_slice-above.ensures.value ∙ ap (λ (x : PlainLevel). as_run x.visible.items) (sym c.index-levels-number-in-Shadow.is)))
    c.has_shadow.ensures)))

pub returns-in-Live : goal.returns-in-Live
returns-in-Live c =
    subst (λ (test : LevelTest). IfOk c.has_few_live.result (λ holds. IsTrue holds ↔ PassesAt test c.args.most c.args.clock (as_levels c.args.levels.now) c.args.number)) (sym c.in-Live.is)
    (from_level c.args.levels.now c.args.number c.index-levels-number.result c.requires.within c.index-levels-number.is c.rest_of.result.now c.rest_of.ensures
    (λ levels. IfOk c.has_few_live.result (λ holds. IsTrue holds ↔ HasFewFrom c.args.most c.args.clock c.args.number levels)) c.has_few_live.ensures)
