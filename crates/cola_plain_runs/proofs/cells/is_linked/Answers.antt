use Rattle.std.proofs.Common.{◌≡◌, ◌+◌, ◌*◌, ◌∙◌, sym, drop, arith, inl, inr}
use Rattle.cola_runs.specs.Cells.{IsLinked, link_of}
use Rattle.cola_plain_runs.specs.Runs.{as_cell, as_run}
use Rattle.cola_runs.proofs.Deciding.{refuses, accepts}
use Rattle.cola_plain_runs.proofs.Lists.{run_from, run_end, same_from, linked_look, linked_item, not_linked, link_counts}
use Rattle.cola_plain_runs.proofs.cells.is_linked.Goals as goal
use Rattle.cola_plain_runs.proofs.cells.is_linked.Goals.{then-looks_ahead, else-looks_ahead, then-link-ne0-via-then-link-ne0, then-link-ne0-via-else-link-ne0+then-link-looks}

pub loop-cell-preserved : goal.loop-cell-preserved
loop-cell-preserved g c =
    let behind = drop (c.loop-cell.cell-index + 1) (as_run c.args.run.now) in
    let here = run_from c.args.run.now c.loop-cell.cell-index c.cell-item.result c.loop-cell-test.true c.cell-item.is in
    let counts : link_of (as_cell c.cell-item.result) ≡ 8 * c.loop-cell.looks =
    sym c.link-else-link-ne0.ensures ∙ link_counts c.link-else-link-ne0.result c.loop-cell.looks (omega arith) c.if-link-looks.false in
    elim c.if-looks_ahead.branch [
      | then-looks_ahead w ↦ (
        linked_look c.loop-cell.looks c.if-looks_ahead.looks (as_cell c.cell-item.result) behind counts (sym c.looks_ahead.ensures ∙ w.if-looks_ahead.true) w.looks-is
            (same_from (IsLinked c.loop-cell.looks) _ _ here c.loop-cell.invariant.0),
        omega arith,
      )
      | else-looks_ahead w ↦ (
        linked_item c.loop-cell.looks c.if-looks_ahead.looks (as_cell c.cell-item.result) behind counts (sym c.looks_ahead.ensures ∙ w.if-looks_ahead.false) w.looks-is
            (same_from (IsLinked c.loop-cell.looks) _ _ here c.loop-cell.invariant.0),
        omega arith,
      )
    ]

pub returns : goal.returns
returns g c =
    let none = run_end c.args.run.now c.loop-cell.cell-index (omega arith) in
    accepts ((same_from (IsLinked c.loop-cell.looks) _ _ none c.loop-cell.invariant.0).1 tt)

pub returns-then-link-ne0 : goal.returns-then-link-ne0
returns-then-link-ne0 g c =
    let behind = drop (c.loop-cell.cell-index + 1) (as_run c.args.run.now) in
    let here = run_from c.args.run.now c.loop-cell.cell-index c.cell-item.result c.loop-cell-test.true c.cell-item.is in
    elim c.then-link-ne0.branch [
      | then-link-ne0-via-then-link-ne0 w ↦ refuses (not_linked c.loop-cell.looks (as_cell c.cell-item.result) behind c.link.result c.link.ensures (inl w.if-link-ne0.true)
          (same_from (IsLinked c.loop-cell.looks) _ _ here c.loop-cell.invariant.0))
      | then-link-ne0-via-else-link-ne0+then-link-looks w ↦ refuses (not_linked c.loop-cell.looks (as_cell c.cell-item.result) behind w.link-else-link-ne0.result w.link-else-link-ne0.ensures (inr w.if-link-looks.true)
          (same_from (IsLinked c.loop-cell.looks) _ _ here c.loop-cell.invariant.0))
    ]
