use Rattle.std.proofs.Common.{◌+◌, ◌*◌, ◌^◌, ◌≤◌, Bool, sym, subst}
use Rattle.cola_check.proofs.Common.{Run, costs_within, AreFewAt, sample_len}
use Rattle.cola_check.proofs.Prefixes.{below-runs, tests-answer, cause-answer, level-ticks}
use Rattle.cola_check.proofs.FileBlocks.{visible-blocks}
use Rattle.cola_check.proofs.RunBlocks.{turns-within}
use Rattle.cola_check.proofs.visibles.test_level.Goals as goal

pub test_run-requires-clause-below : goal.test_run-requires-clause-below
test_run-requires-clause-below g c =
    below-runs c.args.header.now c.args.level (g.W.CellSource.state c.args.work.now).held c.below_run-below.result c.requires.levels c.below_run-below.ensures

pub returns-clause-tests : goal.returns-clause-tests
returns-clause-tests g c =
    tests-answer c.args.header.now c.args.level (g.W.CellSource.state c.args.work.now).held c.requires.level c.below_run-below.result c.below_run-below.ensures c.visible_run-run.result c.visible_run-run.ensures.value
    c.few_at-few.result c.test_run.result (subst (λ (o : Bool). AreFewAt c.args.header.now c.args.level o c.few_at-few.result) c.is_odd_at.ensures c.few_at-few.ensures) c.test_run.ensures.order c.test_run.ensures.sampled c.test_run.ensures.few

pub returns-clause-reads : goal.returns-clause-reads
returns-clause-reads g c = record {
  cause =
      cause-answer c.args.header.now c.args.level (g.W.CellSource.state c.args.work.now).held c.requires.level c.below_run-below.result c.below_run-below.ensures c.visible_run-run.result c.visible_run-run.ensures.value
      (g.W.CellSource.state c.args.work.now).spent.faults (g.W.CellSource.state c.test_run.new.work).spent.faults c.test_run.result c.test_run.ensures.reads.cause;
  cost =
      let few = subst (λ (r : Run). r.len + sample_len c.below_run-below.result ≤ 5 * 2 ^ c.args.level) (sym c.visible_run-run.ensures.value)
      (level-ticks c.args.header.now c.args.level c.below_run-below.result c.requires.level c.below_run-below.ensures) in
      costs_within c.test_run.ensures.reads.cost few few;
}

pub returns-clause-blocks : goal.returns-clause-blocks
returns-clause-blocks g c =
    turns-within (g.W.CellSource.state c.args.work.now) (g.W.CellSource.state c.test_run.new.work) _ _ c.test_run.result (visible-blocks c.args.header.now (g.W.CellSource.state c.args.work.now).held c.args.level c.visible_run-run.result c.below_run-below.result c.visible_run-run.ensures.value c.below_run-below.ensures) c.test_run.ensures.blocks
