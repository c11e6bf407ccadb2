use Rattle.std.specs.List.{AllByRecursion}
use Rattle.cola_runs.specs.Cells.{IsOldValue}
use Rattle.cola_plain_runs.specs.Runs.{as_cell}
use Rattle.cola_runs.proofs.Deciding.{refuses, false_is}
use Rattle.cola_plain_runs.proofs.Lists.{run_from, same_from, all_next, all_fails}
use Rattle.cola_plain_files.proofs.verdict.runs.are_old_values.Goals as goal

pub loop-cell-preserved : goal.loop-cell-preserved
loop-cell-preserved c =
    let here = run_from c.args.run.now c.loop-cell.cell-index c.cell-item.result c.loop-cell-test.true c.cell-item.is in
    all_next _ (as_cell c.cell-item.result) _ (c.is_old_value.ensures.0 c.if-not-is_old_value.false) (same_from (AllByRecursion IsOldValue) _ _ here c.loop-cell.invariant)

pub returns-then-not-is_old_value : goal.returns-then-not-is_old_value
returns-then-not-is_old_value c =
    let here = run_from c.args.run.now c.loop-cell.cell-index c.cell-item.result c.loop-cell-test.true c.cell-item.is in
    refuses (all_fails _ (as_cell c.cell-item.result) _ (λ p. false_is c.is_old_value.result c.if-not-is_old_value.true (c.is_old_value.ensures.1 p))
    (same_from (AllByRecursion IsOldValue) _ _ here c.loop-cell.invariant))
