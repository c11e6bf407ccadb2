-- The turns of the levels of 1 and more, and then the build of level 0.
use Rattle.std.proofs.Common.{List, subst, arith}
use Rattle.cola_level.specs.declared.level.Level.{Level}
use Rattle.cola_mutation.specs.Levels.{IsChain}
use Rattle.cola_mutation.proofs.Readying.{ready_after, ready_first, length_levels}
use Rattle.cola_mutation.proofs.stepping.build_shadows.Goals as goal

pub build_top-requires-clause-ready : goal.build_top-requires-clause-ready
build_top-requires-clause-ready g c =
    let chain = subst (λ (ls : List Level). IsChain (g.W.CellSource.state c.args.work.now).held c.args.clock ls) c.in-Some.ensures.cases.0 c.requires.chain in
    let turns = c.in_ok-work_levels.ensures.turns in
    let many = length_levels c.args.clock 0 c.in-Some.below.now c.work_levels.new.levels turns.turned in
    ready_first c.args.clock c.in-Some.top.now.visible c.args.cell c.work_levels.new.levels c.index-below-0.result (omega (arith, many, chain.many))
    (ready_after c.in_ok-work_levels.field-0 _ c.args.clock c.args.cell c.in-Some.top.now c.in-Some.below.now c.work_levels.new.levels chain c.requires.fits turns.keeps turns.turned (turns.marked chain.marks.1))
