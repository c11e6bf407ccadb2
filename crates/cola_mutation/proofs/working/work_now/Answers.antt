-- The turn of a level that works.
use Rattle.std.proofs.Common.{◌≡◌, ℕ, suc, ◌+◌, ◌-◌, true, sym, ap, subst, add-one, ◌∙◌, arith}
use Rattle.cola_clock.specs.Clock.{works}
use Rattle.cola_merge.specs.Heads.{IsReady}
use Rattle.cola_level.specs.Marks.{all_marks_of}
use Rattle.cola_level.specs.Aims.{aim_at}
use Rattle.cola_level.specs.Works.{Works}
use Rattle.cola_mutation.specs.Work.{state_of, object_of}
use Rattle.cola_mutation.proofs.Turning.{turn_works}
use Rattle.cola_mutation.proofs.working.work_now.Goals as goal

back : (n : ℕ) → n + 1 - 1 ≡ n
back n = omega arith

-- whether the level works, by its number
answer : (t n : ℕ) → works t (n + 1) ≡ true → works t (suc n) ≡ true
answer t n e = ap (λ (x : ℕ). works t x) (sym (add-one n)) ∙ e

pub work_by-requires-clause-ready : goal.work_by-requires-clause-ready
work_by-requires-clause-ready g c =
    subst (λ (n : ℕ). IsReady (g.W.CellSource.state c.args.work.now).held (aim_at c.args.clock n c.args.level.now.visible c.args.above (all_marks_of c.args.below.now)) c.args.level.now.merger) (sym (back c.args.upper))
    (c.requires.fits.ready (answer c.args.clock c.args.upper c.requires.works))

pub returns-clause-turn : goal.returns-clause-turn
returns-clause-turn g c =
    let t = c.args.clock in
    let i = c.args.upper in
    let above = c.args.above in
    let below = all_marks_of c.args.below.now in
    let s = state_of (g.W.CellSource.state c.args.work.now) c.args.steps.now in
    let u = state_of (g.W.CellSource.state c.work_by.new.work) c.work_by.new.steps in
    turn_works c.work_by.result t i above s u c.args.level.now c.work_by.new.level below (answer t i c.requires.works) c.requires.fits
    (subst (λ (n : ℕ). Works (aim_at t n c.args.level.now.visible above below) (object_of s) (object_of u) c.args.level.now c.work_by.new.level s.steps u.steps c.work_by.result) (back i) c.work_by.ensures.works)
