use Rattle.std.proofs.Common.{◌∙◌, ◌+◌, sym, drop, arith}
use Rattle.cola_runs.specs.Cells.{count_items}
use Rattle.cola_plain_runs.specs.Runs.{as_cell, as_run}
use Rattle.cola_plain_runs.proofs.Lists.{run_from}
use Rattle.cola_plain_files.proofs.Runs.{counted, item_counts, item_counts_not}
use Rattle.cola_plain_files.proofs.verdict.runs.count_items.Goals as goal
use Rattle.cola_plain_files.proofs.verdict.runs.count_items.Goals.{then-not-looks_ahead, else-not-looks_ahead}

pub loop-cell-preserved : goal.loop-cell-preserved
loop-cell-preserved c =
    let behind = drop (c.loop-cell.cell-index + 1) (as_run c.args.run.now) in
    let here = run_from c.args.run.now c.loop-cell.cell-index c.cell-item.result c.loop-cell-test.true c.cell-item.is in
    elim c.if-not-looks_ahead.branch [
      | then-not-looks_ahead w ↦ counted count_items (as_cell c.cell-item.result) behind _ 1 c.loop-cell.items c.if-not-looks_ahead.items _ c.loop-cell.cell-index here
          (item_counts (as_cell c.cell-item.result) behind (sym c.looks_ahead.ensures ∙ w.if-not-looks_ahead.true)) (omega arith) w.items-is c.loop-cell.invariant
      | else-not-looks_ahead w ↦ counted count_items (as_cell c.cell-item.result) behind _ 0 c.loop-cell.items c.if-not-looks_ahead.items _ c.loop-cell.cell-index here
          (item_counts_not (as_cell c.cell-item.result) behind (sym c.looks_ahead.ensures ∙ w.if-not-looks_ahead.false)) (omega arith) (omega (arith, w.items-is)) c.loop-cell.invariant
    ]
