use Rattle.std.proofs.Common.{arith}
use Rattle.cola_plain_runs.specs.Runs.{as_cell}
use Rattle.cola_runs.proofs.Deciding.{refuses, false_is}
use Rattle.cola_plain_runs.proofs.Lists.{run_from}
use Rattle.cola_plain_files.proofs.Runs.{same_next, same_fails}
use Rattle.cola_plain_files.proofs.verdict.cells.is_same_run.Goals as goal

pub loop-i-preserved : goal.loop-i-preserved
loop-i-preserved c =
    let here = run_from c.args.run.now c.loop-i.i c.index-run-i.result c.loop-i-test.true c.index-run-i.is in
    let there = run_from c.args.other.now c.loop-i.i c.index-other-i.result (omega arith) c.index-other-i.is in
    same_next _ _ _ _ (as_cell c.index-run-i.result) (as_cell c.index-other-i.result) here there (c.is_same_cell.ensures.0 c.if-not-is_same_cell.false) c.loop-i.invariant

pub returns-then-not-is_same_cell : goal.returns-then-not-is_same_cell
returns-then-not-is_same_cell c =
    let here = run_from c.args.run.now c.loop-i.i c.index-run-i.result c.loop-i-test.true c.index-run-i.is in
    let there = run_from c.args.other.now c.loop-i.i c.index-other-i.result (omega arith) c.index-other-i.is in
    refuses (same_fails _ _ _ _ (as_cell c.index-run-i.result) (as_cell c.index-other-i.result) here there
    (λ e. false_is c.is_same_cell.result c.if-not-is_same_cell.true (c.is_same_cell.ensures.1 e)) c.loop-i.invariant)
