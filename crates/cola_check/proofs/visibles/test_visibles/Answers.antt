use Rattle.std.proofs.Common.{ap, rules, ◌≡◌, ◌+◌, ◌*◌, ◌^◌, ℕ, subst, arith}
use Rattle.cola_check.proofs.Common.{Held, costs_then, costs_within, AreCellsTold, looks_then, level_blocks, blocks_below, AreTestsAt, AreFirstFlaws, tested_by}
use Rattle.cola_check.proofs.FileBlocks.{visibles-more, visibles-all}
use Rattle.cola_check.proofs.Prefixes.{next-ticks, all-ticks}
use Rattle.cola_check.proofs.visibles.test_visibles.Goals as goal

pub returns-in_err-tests-clause-reads : goal.returns-in_err-tests-clause-reads
returns-in_err-tests-clause-reads g c = record {
  cause = search rules;
  cost =
      let some = all-ticks c.args.header.now c.loop-level.level (omega (arith, c.levels-level-end.ensures.value, c.loop-level-test.true)) in
      costs_within (costs_then {more = 5 * 2 ^ c.loop-level.level} {others = 5 * 2 ^ c.loop-level.level} c.loop-level.invariant.cost c.in_err-tests.ensures.reads.cost) some some;
}

pub loop-level-preserved : goal.loop-level-preserved
loop-level-preserved g c =
    let i = c.loop-level.invariant in
    let header = c.args.header.now in
    let held = (g.W.CellSource.state c.args.work.now).held in
    let level = c.loop-level.level in
    let tests = c.in_ok-tests.ensures in
    let some = next-ticks header level in
    record {
      looks = looks_then i.looks tests.looks;
      cost = costs_within (costs_then {more = 5 * 2 ^ level} {others = 5 * 2 ^ level} i.cost tests.reads.cost) some some;
      blocks =
          let more = visibles-more header held level in
          let same = ap (λ (h : Held). level_blocks header h level + blocks_below header h level) i.looks.cells_stay in
          omega (arith, i.blocks, more, tests.blocks, same);
      placed = c.with-flaws.ensures.placed i.placed tests.within;
      found = λ told.
          c.with-flaws.ensures.found (tested_by header held) (i.found told)
          (subst (λ (h : Held). AreCellsTold (tested_by header h) → AreTestsAt (tested_by header h) level c.in_ok-tests.tests) i.looks.cells_stay tests.tests told);
    }

pub returns-clause-finds : goal.returns-clause-finds
returns-clause-finds g c =
    let header = c.args.header.now in
    let held = (g.W.CellSource.state c.args.work.now).held in
    let whole : c.loop-level.level ≡ header.geometry.bottom + 1 = omega (arith, c.levels-level-end.ensures.value, c.loop-level.auto.level-end, c.loop-level-test.false) in
    c.verdict_by.ensures held (λ told. subst (λ (n : ℕ). AreFirstFlaws (tested_by header held) n c.loop-level.flaws) whole (c.loop-level.invariant.found told))

pub returns-clause-blocks : goal.returns-clause-blocks
returns-clause-blocks g c =
    let all = visibles-all c.args.header.now (g.W.CellSource.state c.args.work.now).held c.loop-level.level (omega (arith, c.levels-level-end.ensures.value, c.loop-level.auto.level-end)) in
    omega (arith, c.loop-level.invariant.blocks, all)
