-- The work of a level of 1 and more, by its aim.
use Rattle.std.proofs.Common.{◌≡◌, ◌-◌, sym, subst}
use Rattle.cola_merge.specs.declared.aims.Aim.{Aim}
use Rattle.cola_merge.specs.Heads.{IsReady}
use Rattle.cola_level.specs.Works.{Works}
use Rattle.cola_level.proofs.Sources.{aim_above, aim_below}
use Rattle.cola_level.proofs.aims.work_by.Goals as goal

pub work-requires : goal.work-requires
work-requires g c =
    subst (λ (a : Aim). IsReady (g.W.CellSource.state c.args.work.now).held a c.args.level.now.merger)
    (sym (aim_above c.args.clock c.args.number c.args.level.now.visible c.args.above c.args.below.now c.requires.above_zero c.visible_slot.ensures.value c.visible_slot-2.ensures.value c.in-Some.ensures.value c.upper_aim-aim.ensures)) c.requires.ready

pub returns-in-Some-clause-works : goal.returns-in-Some-clause-works
returns-in-Some-clause-works g c =
    subst (λ (a : Aim). Works a (g.W.CellSource.state c.args.work.now) (g.W.CellSource.state c.work.new.work) c.args.level.now c.work.new.self c.args.steps.now c.work.new.steps c.work.result)
    (aim_above c.args.clock c.args.number c.args.level.now.visible c.args.above c.args.below.now c.requires.above_zero c.visible_slot.ensures.value c.visible_slot-2.ensures.value c.in-Some.ensures.value c.upper_aim-aim.ensures) c.work.ensures.works

pub work-requires-in-None : goal.work-requires-in-None
work-requires-in-None g c =
    subst (λ (a : Aim). IsReady (g.W.CellSource.state c.args.work.now).held a c.args.level.now.merger)
    (sym (aim_below c.args.clock c.args.number c.args.level.now.visible c.args.above c.args.below.now c.requires.above_zero c.visible_slot.ensures.value c.visible_slot-2.ensures.value c.in-None.ensures.value c.bottom_aim-aim.ensures.aim)) c.requires.ready

pub returns-in-None-clause-works : goal.returns-in-None-clause-works
returns-in-None-clause-works g c =
    subst (λ (a : Aim). Works a (g.W.CellSource.state c.args.work.now) (g.W.CellSource.state c.work-in-None.new.work) c.args.level.now c.work-in-None.new.self c.args.steps.now c.work-in-None.new.steps c.work-in-None.result)
    (aim_below c.args.clock c.args.number c.args.level.now.visible c.args.above c.args.below.now c.requires.above_zero c.visible_slot.ensures.value c.visible_slot-2.ensures.value c.in-None.ensures.value c.bottom_aim-aim.ensures.aim) c.work-in-None.ensures.works
