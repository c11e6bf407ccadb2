use Rattle.std.proofs.Common.{rules, ◌↔◌, ◌≤◌, IsTrue, ap, subst, ◌∙◌, arith}
use Rattle.cola_check.proofs.Common.{Run, Held, number_of, costs_then, costs_within, Shadow, Broken, ShadowAt, looks_then, tested_by, IsReached}
use Rattle.cola_check.proofs.FileBlocks.{shadow-done, shadows-all}
use Rattle.cola_check.proofs.BadRuns.{level-in}
use Rattle.cola_check.proofs.ShadowTests.{one-more, one-fails, more-ticks, some-ticks}
use Rattle.cola_check.proofs.shadows.test_shadows.Goals as goal

pub returns-in_err-has_shadow-clause-reads : goal.returns-in_err-has_shadow-clause-reads
returns-in_err-has_shadow-clause-reads g c = record {
  cause = search rules;
  cost =
      let some = some-ticks c.args.header.now.geometry.bottom c.loop-level.level (let t = c.loop-level-test.true in omega (arith, t)) c.loop-level.invariant.low in
      costs_within (costs_then c.loop-level.invariant.cost c.in_err-has_shadow.ensures.reads.cost) some some;
}

pub returns-then-not-branch-clause-finds : goal.returns-then-not-branch-clause-finds
returns-then-not-branch-clause-finds g c =
    let i = c.loop-level.invariant in
    let has = subst (λ (h : Held). IsReached (tested_by c.args.header.now h) c.loop-level.level → (IsTrue c.in_ok-has_shadow.field-0 ↔ ShadowAt (tested_by c.args.header.now h) c.loop-level.level)) i.looks.cells_stay c.in_ok-has_shadow.ensures.has in
    one-fails (tested_by c.args.header.now (g.W.CellSource.state c.args.work.now).held) c.loop-level.level c.in_ok-has_shadow.field-0 c.broken_at.result c.if-not-branch.true (level-in c.args.header.now c.loop-level.level i.low) i.behind has
    (c.broken_at.ensures ∙ ap (λ (r : Run). Broken Shadow r.level (number_of r.level r.slot 0)) c.shadow_run-shadow.ensures.value)

pub returns-then-not-branch-clause-reads : goal.returns-then-not-branch-clause-reads
returns-then-not-branch-clause-reads g c = record {
  cause = tt;
  cost =
      let some = some-ticks c.args.header.now.geometry.bottom c.loop-level.level (let t = c.loop-level-test.true in omega (arith, t)) c.loop-level.invariant.low in
      costs_within (costs_then c.loop-level.invariant.cost c.in_ok-has_shadow.ensures.reads.cost) some some;
}

pub loop-level-preserved : goal.loop-level-preserved
loop-level-preserved g c =
    let i = c.loop-level.invariant in
    let one : 1 ≤ c.loop-level.level = let t = c.loop-level-test.true in omega (arith, t) in
    let more = more-ticks c.args.header.now.geometry.bottom c.loop-level.level one i.low in
    let has = subst (λ (h : Held). IsReached (tested_by c.args.header.now h) c.loop-level.level → (IsTrue c.in_ok-has_shadow.field-0 ↔ ShadowAt (tested_by c.args.header.now h) c.loop-level.level)) i.looks.cells_stay c.in_ok-has_shadow.ensures.has in
    record {
      looks = looks_then i.looks c.in_ok-has_shadow.ensures.looks;
      cost = costs_within (costs_then i.cost c.in_ok-has_shadow.ensures.reads.cost) more more;
      blocks =
          let w = g.W.CellSource in
          shadow-done c.args.header.now (w.state c.args.work.now).held (w.state c.loop-level.work).held c.loop-level.level (w.state c.loop-level.work).spent.turned (w.state c.args.work.now).spent.turned
          (w.state c.has_shadow.new.work).spent.turned i.looks.cells_stay one i.blocks c.in_ok-has_shadow.ensures.blocks;
      low = let l = i.low in omega (arith, l);
      behind = one-more (tested_by c.args.header.now (g.W.CellSource.state c.args.work.now).held) c.loop-level.level c.in_ok-has_shadow.field-0 c.if-not-branch.false one i.behind has;
    }

pub returns-then-not-branch-clause-blocks : goal.returns-then-not-branch-clause-blocks
returns-then-not-branch-clause-blocks g c =
    let w = g.W.CellSource in
    let i = c.loop-level.invariant in
    let one : 1 ≤ c.loop-level.level = let t = c.loop-level-test.true in omega (arith, t) in
    let done = shadow-done c.args.header.now (w.state c.args.work.now).held (w.state c.loop-level.work).held c.loop-level.level (w.state c.loop-level.work).spent.turned (w.state c.args.work.now).spent.turned
    (w.state c.has_shadow.new.work).spent.turned i.looks.cells_stay one i.blocks c.in_ok-has_shadow.ensures.blocks in
    let all = shadows-all c.args.header.now (w.state c.args.work.now).held in
    omega (arith, done, all)

pub returns-clause-blocks : goal.returns-clause-blocks
returns-clause-blocks g c =
    let all = shadows-all c.args.header.now (g.W.CellSource.state c.args.work.now).held in
    omega (arith, c.loop-level.invariant.blocks, all)
