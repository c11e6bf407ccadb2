use Rattle.std.proofs.Common.{rules, ◌-◌, ◌<◌, refl, subst, arith}
use Rattle.cola_check.proofs.Common.{AreAwayFrom}
use Rattle.cola_check.proofs.LeastKeys.{away-below, stays-then}
use Rattle.cola_check.proofs.level_walks.+pass_below.Goals as goal

pub pass_below-requires : goal.pass_below-requires
pass_below-requires g t c =
    let away : AreAwayFrom (c.args.away - 1) c.args.key.now c.in-Some.below.now =
    away-below c.args.away (c.args.away - 1) c.args.key.now c.in-Some.level.now c.in-Some.below.now refl (subst (AreAwayFrom c.args.away c.args.key.now) c.in-Some.ensures.cases.0 c.requires.away) in
    search (rules, away)

pub returns-clause-passes : goal.returns-clause-passes
returns-clause-passes g t c =
    let some : 0 < c.args.away = omega (arith, c.if-away-eq0.false) in
    stays-then (g.W.CellSource.state c.args.work.now).held c.args.key.now c.pass_below.result c.args.away c.args.levels.now c.in-Some.level.now c.stay.new.self c.in-Some.below.now c.pass_below.new.levels c.in-Some.ensures.cases.0 some c.requires.fit c.requires.ready c.requires.away
    c.stay.ensures.stays c.stay.ensures.hushed c.pass_below.ensures.passes
