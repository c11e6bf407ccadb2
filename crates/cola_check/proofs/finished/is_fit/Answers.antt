use Rattle.std.proofs.Common.{Bool, not, ap, subst, arith}
use Rattle.cola_check.proofs.Common.{costs_within, AreFewAt, err_is}
use Rattle.cola_check.proofs.ShadowTests.{fit-ticks, next-runs, fit-cause, fit-answer}
use Rattle.cola_check.proofs.FileBlocks.{fit-blocks}
use Rattle.cola_check.proofs.finished.is_fit.Goals as goal

pub test_run-requires-clause-below : goal.test_run-requires-clause-below
test_run-requires-clause-below g c = next-runs c.args.header.now c.args.level c.requires.level (g.W.CellSource.state c.args.work.now).held c.requires.levels c.next_run-next.result c.next_run-next.ensures

pub returns-in_err-tests-clause-reads : goal.returns-in_err-tests-clause-reads
returns-in_err-tests-clause-reads g c = record {
  cause =
      fit-cause c.args.header.now c.args.level c.requires.level (g.W.CellSource.state c.args.work.now).held c.shadow_run-shadow.result c.next_run-next.result c.shadow_run-shadow.ensures.value c.next_run-next.ensures
      (g.W.CellSource.state c.args.work.now).spent.faults (g.W.CellSource.state c.test_run.new.work).spent.faults c.in_err-tests.field-0.0 c.from_residual.result
      (err_is c.from_residual.result c.in_err-tests.field-0.0 c.from_residual.ensures.1) c.in_err-tests.ensures.reads.cause;
  cost =
      let few = fit-ticks c.args.header.now c.args.level c.requires.level c.shadow_run-shadow.result c.next_run-next.result c.shadow_run-shadow.ensures.value c.next_run-next.ensures in
      costs_within c.in_err-tests.ensures.reads.cost few few;
}

pub returns-clause-fit : goal.returns-clause-fit
returns-clause-fit g c =
    fit-answer c.args.header.now c.args.level c.requires.level (g.W.CellSource.state c.args.work.now).held c.shadow_run-shadow.result c.next_run-next.result c.few_at-few.result c.shadow_run-shadow.ensures.value c.next_run-next.ensures (subst (λ (o : Bool). AreFewAt c.args.header.now c.args.level o c.few_at-few.result) (ap not c.is_odd_at.ensures) c.few_at-few.ensures)
    c.in_ok-tests.tests c.is_good.result c.is_good.ensures c.in_ok-tests.ensures.order c.in_ok-tests.ensures.sampled c.in_ok-tests.ensures.few

pub returns-clause-reads : goal.returns-clause-reads
returns-clause-reads g c = record {
  cause = tt;
  cost =
      let few = fit-ticks c.args.header.now c.args.level c.requires.level c.shadow_run-shadow.result c.next_run-next.result c.shadow_run-shadow.ensures.value c.next_run-next.ensures in
      costs_within c.in_ok-tests.ensures.reads.cost few few;
}

pub returns-clause-blocks : goal.returns-clause-blocks
returns-clause-blocks g c =
    let few = fit-blocks c.args.header.now (g.W.CellSource.state c.args.work.now).held c.args.level c.shadow_run-shadow.result c.next_run-next.result c.shadow_run-shadow.ensures.value c.next_run-next.ensures in
    omega (arith, few, c.in_ok-tests.ensures.blocks)
