use Rattle.std.proofs.Common.{◌+◌, ◌∙◌, sym, ap, drop, arith}
use Rattle.cola_plain_runs.specs.Runs.{as_cell, as_run}
use Rattle.cola_plain_runs.proofs.Lists.{run_from}
use Rattle.cola_plain_runs.proofs.Weaving.{linked_next, relinked_look, relinked_item, run_append}
use Rattle.cola_plain_files.proofs.verdict.tests.joined.Goals as goal
use Rattle.cola_plain_files.proofs.verdict.tests.joined.Goals.{then-looks_ahead, else-looks_ahead}

pub loop-cell-preserved : goal.loop-cell-preserved
loop-cell-preserved c =
    let behind = drop (c.loop-cell.cell-index + 1) (as_run c.args.rest.now) in
    let here = run_from c.args.rest.now c.loop-cell.cell-index c.cell-item.result c.loop-cell-test.true c.cell-item.is in
    let pushed = ap as_run c.in_ok-push.ensures.items ∙ run_append c.loop-cell.run.items c.linked_to.result in
    elim c.if-looks_ahead.branch [
      | then-looks_ahead w ↦ (
        linked_next c.loop-cell.looks c.if-looks_ahead.looks (as_cell c.cell-item.result) (as_cell c.linked_to.result) behind _ _ _ _ here c.linked_to.ensures pushed
            (relinked_look c.loop-cell.looks c.if-looks_ahead.looks (as_cell c.cell-item.result) behind (sym c.looks_ahead.ensures ∙ w.if-looks_ahead.true) w.looks-is) c.loop-cell.invariant.0,
        omega arith,
      )
      | else-looks_ahead w ↦ (
        linked_next c.loop-cell.looks c.if-looks_ahead.looks (as_cell c.cell-item.result) (as_cell c.linked_to.result) behind _ _ _ _ here c.linked_to.ensures pushed
            (relinked_item c.loop-cell.looks c.if-looks_ahead.looks (as_cell c.cell-item.result) behind (sym c.looks_ahead.ensures ∙ w.if-looks_ahead.false) w.looks-is) c.loop-cell.invariant.0,
        omega arith,
      )
    ]
