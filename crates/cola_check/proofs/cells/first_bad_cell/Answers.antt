use Rattle.std.proofs.Common.{rules, Option, subst, arith, below_more}
use Rattle.cola_check.proofs.Common.{Held, costs_then, costs_within, looks_then, AreRunsTold, FindsAt, level_cells}
use Rattle.cola_check.proofs.BadRuns.{some-cells, file-finds}
use Rattle.cola_check.proofs.RunBlocks.{blocks-then, blocks-within}
use Rattle.cola_check.proofs.cells.first_bad_cell.Goals as goal

pub returns-in_err-number-clause-reads : goal.returns-in_err-number-clause-reads
returns-in_err-number-clause-reads g c = record {
  cause = search rules;
  cost =
      let some = some-cells c.args.header.now c.loop-level.level (omega (arith, c.levels-level-end.ensures.value, c.loop-level-test.true)) in
      costs_within (costs_then {more = level_cells c.args.header.now c.loop-level.level} {others = level_cells c.args.header.now c.loop-level.level} c.loop-level.invariant.cost c.in_err-number.ensures.reads.cost) some some;
}

pub returns-in-Some-clause-finds : goal.returns-in-Some-clause-finds
returns-in-Some-clause-finds g c =
    let held = (g.W.CellSource.state c.args.work.now).held in
    let at = subst (λ (h : Held). FindsAt c.args.header.now h c.loop-level.level c.in_ok-number.field-0) c.loop-level.invariant.looks.cells_stay c.in_ok-number.ensures.finds in
    file-finds c.args.header.now held c.loop-level.level c.in-Some.number (omega (arith, c.levels-level-end.ensures.value, c.loop-level-test.true)) c.loop-level.invariant.told
    (subst (λ (x : Option _). FindsAt c.args.header.now held c.loop-level.level x) c.in-Some.is at)

pub returns-in-Some-clause-reads : goal.returns-in-Some-clause-reads
returns-in-Some-clause-reads g c = record {
  cause = tt;
  cost =
      let some = some-cells c.args.header.now c.loop-level.level (omega (arith, c.levels-level-end.ensures.value, c.loop-level-test.true)) in
      costs_within (costs_then {more = level_cells c.args.header.now c.loop-level.level} {others = level_cells c.args.header.now c.loop-level.level} c.loop-level.invariant.cost c.in_ok-number.ensures.reads.cost) some some;
}

pub returns-in_err-number-clause-blocks : goal.returns-in_err-number-clause-blocks
returns-in_err-number-clause-blocks g c =
    blocks-within c.args.header.now c.loop-level.level (g.W.CellSource.state c.args.work.now).spent.turned (g.W.CellSource.state c.loop-level.work).spent.turned (g.W.CellSource.state c.bad_in_level.new.work).spent.turned
    (omega (arith, c.levels-level-end.ensures.value, c.loop-level-test.true)) c.loop-level.invariant.looks.cells_stay c.loop-level.invariant.blocks c.in_err-number.ensures.blocks

pub returns-in-Some-clause-blocks : goal.returns-in-Some-clause-blocks
returns-in-Some-clause-blocks g c =
    blocks-within c.args.header.now c.loop-level.level (g.W.CellSource.state c.args.work.now).spent.turned (g.W.CellSource.state c.loop-level.work).spent.turned (g.W.CellSource.state c.bad_in_level.new.work).spent.turned
    (omega (arith, c.levels-level-end.ensures.value, c.loop-level-test.true)) c.loop-level.invariant.looks.cells_stay c.loop-level.invariant.blocks c.in_ok-number.ensures.blocks

pub loop-level-preserved : goal.loop-level-preserved
loop-level-preserved g c =
    let i = c.loop-level.invariant in
    let held = (g.W.CellSource.state c.args.work.now).held in
    let at = subst (λ (h : Held). FindsAt c.args.header.now h c.loop-level.level c.in_ok-number.field-0) i.looks.cells_stay c.in_ok-number.ensures.finds in
    record {
      looks = looks_then i.looks c.in_ok-number.ensures.looks;
      cost = search rules;
      blocks = blocks-then c.args.header.now c.loop-level.level (g.W.CellSource.state c.args.work.now).spent.turned (g.W.CellSource.state c.loop-level.work).spent.turned (g.W.CellSource.state c.bad_in_level.new.work).spent.turned i.looks.cells_stay i.blocks c.in_ok-number.ensures.blocks;
      told = λ telling. below_more (AreRunsTold c.args.header.now held) c.loop-level.level (i.told telling)
          (subst (λ (x : Option _). FindsAt c.args.header.now held c.loop-level.level x) c.in_default.is at telling);
    }
