use Rattle.std.proofs.Common.{◌∙◌, ◌+◌, sym, drop, arith}
use Rattle.cola_runs.specs.Cells.{count_young}
use Rattle.cola_plain_runs.specs.Runs.{as_cell, as_run}
use Rattle.cola_plain_runs.proofs.Lists.{run_from}
use Rattle.cola_plain_files.proofs.Runs.{counted, young_counts, young_counts_not}
use Rattle.cola_plain_files.proofs.verdict.runs.count_young.Goals as goal
use Rattle.cola_plain_files.proofs.verdict.runs.count_young.Goals.{then-is_young, else-is_young}

pub loop-cell-preserved : goal.loop-cell-preserved
loop-cell-preserved c =
    let behind = drop (c.loop-cell.cell-index + 1) (as_run c.args.run.now) in
    let here = run_from c.args.run.now c.loop-cell.cell-index c.cell-item.result c.loop-cell-test.true c.cell-item.is in
    elim c.if-is_young.branch [
      | then-is_young w ↦ counted count_young (as_cell c.cell-item.result) behind _ 1 c.loop-cell.young c.if-is_young.young _ c.loop-cell.cell-index here
          (young_counts (as_cell c.cell-item.result) behind (sym c.is_young.ensures ∙ w.if-is_young.true)) (omega arith) w.young-is c.loop-cell.invariant
      | else-is_young w ↦ counted count_young (as_cell c.cell-item.result) behind _ 0 c.loop-cell.young c.if-is_young.young _ c.loop-cell.cell-index here
          (young_counts_not (as_cell c.cell-item.result) behind (sym c.is_young.ensures ∙ w.if-is_young.false)) (omega arith) (omega (arith, w.young-is)) c.loop-cell.invariant
    ]
