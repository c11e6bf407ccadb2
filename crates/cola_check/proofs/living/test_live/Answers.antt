-- The verdict by the live keys.
use Rattle.std.proofs.Common.{List, length, arith, sym, ap, subst, ◌∙◌, ◌+◌}
use Rattle.cola_check.proofs.Common.{AllByRecursion, costs_within, LevelRuns, HasLevel, TestCause}
use Rattle.cola_check.proofs.FileBlocks.{counted-stand_all, counted-all}
use Rattle.cola_check.proofs.Levels.{refused}
use Rattle.cola_check.proofs.LiveTests.{counted-many, levels-have, counting-cause, finds-verdict, few-counted}
use Rattle.cola_check.proofs.living.test_live.Goals as goal

pub count_live-requires-clause-runs : goal.count_live-requires-clause-runs
count_live-requires-clause-runs g c =
    let held = (g.W.CellSource.state c.args.work.now).held in
    let header = c.args.header.now in
    subst (λ (rs : List LevelRuns). AllByRecursion (HasLevel held) rs) (sym (c.as_slice.ensures.value ∙ c.counted_levels-levels.ensures))
    (levels-have header held c.requires 0 (header.geometry.bottom + 1) (omega arith))

pub returns-in_err-tally-clause-reads : goal.returns-in_err-tally-clause-reads
returns-in_err-tally-clause-reads g c = record {
  cause =
      let w = g.W.CellSource in
      let held = (w.state c.args.work.now).held in
      let header = c.args.header.now in
      let before = (w.state c.args.work.now).spent.faults in
      let now = (w.state c.count_live.new.work).spent.faults in
      refused c.from_residual.result c.in_err-tally.field-0.0 (TestCause header held before now) c.from_residual.ensures.1
      (counting-cause header held before now c.in_err-tally.field-0.0 c.as_slice.result.now (c.as_slice.ensures.value ∙ c.counted_levels-levels.ensures) c.in_err-tally.ensures.reads.cause);
  cost =
      let few = few-counted c.args.header.now c.as_slice.result.now (c.as_slice.ensures.value ∙ c.counted_levels-levels.ensures) in
      costs_within c.in_err-tally.ensures.reads.cost few few;
}

pub judge-requires : goal.judge-requires
judge-requires g c =
    let header = c.args.header.now in
    c.in_ok-tally.ensures.many ∙ ap length (c.as_slice.ensures.value ∙ c.counted_levels-levels.ensures) ∙ counted-many header 0 (header.geometry.bottom + 1)

pub returns-clause-finds : goal.returns-clause-finds
returns-clause-finds g c =
    finds-verdict c.args.header.now (g.W.CellSource.state c.args.work.now).held c.as_slice.result.now c.in_ok-tally.tally.counts.items c.in_ok-tally.tally.stamped c.judge.result
    (c.as_slice.ensures.value ∙ c.counted_levels-levels.ensures) c.in_ok-tally.ensures.counts c.in_ok-tally.ensures.stamped c.judge.ensures

pub returns-clause-reads : goal.returns-clause-reads
returns-clause-reads g c = record {
  cause = tt;
  cost =
      let few = few-counted c.args.header.now c.as_slice.result.now (c.as_slice.ensures.value ∙ c.counted_levels-levels.ensures) in
      costs_within c.in_ok-tally.ensures.reads.cost few few;
}

pub returns-clause-blocks : goal.returns-clause-blocks
returns-clause-blocks g c =
    let header = c.args.header.now in
    let held = (g.W.CellSource.state c.args.work.now).held in
    let is = c.as_slice.ensures.value ∙ c.counted_levels-levels.ensures in
    let b = c.in_ok-tally.ensures.blocks (counted-stand_all header held c.as_slice.result.now is) in
    let all = counted-all header held c.as_slice.result.now is in
    omega (arith, b, all)
