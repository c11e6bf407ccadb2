use Rattle.std.proofs.Common.{◌∙◌, ◌+◌, sym, drop, arith}
use Rattle.cola_runs.specs.Cells.{count_looks}
use Rattle.cola_plain_runs.specs.Runs.{as_cell, as_run}
use Rattle.cola_plain_runs.proofs.Lists.{run_from}
use Rattle.cola_plain_files.proofs.Runs.{counted, look_counts, look_counts_not}
use Rattle.cola_plain_files.proofs.verdict.runs.count_looks.Goals as goal
use Rattle.cola_plain_files.proofs.verdict.runs.count_looks.Goals.{then-looks_ahead, else-looks_ahead}

pub loop-cell-preserved : goal.loop-cell-preserved
loop-cell-preserved c =
    let behind = drop (c.loop-cell.cell-index + 1) (as_run c.args.run.now) in
    let here = run_from c.args.run.now c.loop-cell.cell-index c.cell-item.result c.loop-cell-test.true c.cell-item.is in
    elim c.if-looks_ahead.branch [
      | then-looks_ahead w ↦ counted count_looks (as_cell c.cell-item.result) behind _ 1 c.loop-cell.looks c.if-looks_ahead.looks _ c.loop-cell.cell-index here
          (look_counts (as_cell c.cell-item.result) behind (sym c.looks_ahead.ensures ∙ w.if-looks_ahead.true)) (omega arith) w.looks-is c.loop-cell.invariant
      | else-looks_ahead w ↦ counted count_looks (as_cell c.cell-item.result) behind _ 0 c.loop-cell.looks c.if-looks_ahead.looks _ c.loop-cell.cell-index here
          (look_counts_not (as_cell c.cell-item.result) behind (sym c.looks_ahead.ensures ∙ w.if-looks_ahead.false)) (omega arith) (omega (arith, w.looks-is)) c.loop-cell.invariant
    ]
