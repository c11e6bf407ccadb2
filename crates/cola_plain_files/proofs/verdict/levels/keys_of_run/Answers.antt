use Rattle.std.proofs.Common.{subst, sym, arith, rules}
use Rattle.cola_cell.specs.Bytes.{IsKey}
use Rattle.cola_plain_runs.proofs.Lists.{run_from, run_end}
use Rattle.cola_plain_files.specs.Levels.{HaveKeys}
use Rattle.cola_plain_files.proofs.verdict.levels.keys_of_run.Goals as goal

pub loop-cell-preserved : goal.loop-cell-preserved
loop-cell-preserved c =
    let here = run_from c.args.run.now c.loop-cell.cell-index c.cell-item.result c.loop-cell-test.true c.cell-item.is in
    let is : IsKey c.key-key.result = search rules in
    λ rest. c.loop-cell.invariant (subst HaveKeys (sym here) (subst IsKey c.key-key.ensures is, rest))

pub returns : goal.returns
returns c = c.loop-cell.invariant (subst HaveKeys (sym (run_end c.args.run.now c.loop-cell.cell-index (omega arith))) tt)
