use Rattle.std.proofs.Common.{subst, sym, ap, arith}
use Rattle.std.specs.List.{AllByRecursion}
use Rattle.cola_plain_runs.proofs.Setting.{mapped_from, mapped_end}
use Rattle.cola_plain_runs.specs.Runs.{as_run}
use Rattle.cola_plain_files.specs.Levels.{HaveKeys}
use Rattle.cola_plain_files.proofs.verdict.levels.keys_of_runs.Goals as goal

pub loop-run-preserved : goal.loop-run-preserved
loop-run-preserved c =
    let here = mapped_from (λ run. as_run run.items) c.args.runs.now c.loop-run.run-index c.run-item.result c.loop-run-test.true c.run-item.is in
    λ rest. c.loop-run.invariant (subst (AllByRecursion HaveKeys) (sym here) (subst HaveKeys (ap as_run c.as_slice.ensures.value) c.keys_of_run.ensures, rest))

pub returns : goal.returns
returns c = c.loop-run.invariant (subst (AllByRecursion HaveKeys) (sym (mapped_end (λ run. as_run run.items) c.args.runs.now c.loop-run.run-index (omega arith))) tt)
