use Rattle.std.proofs.Common.{◌+◌, ◌∙◌, ap, drop}
use Rattle.cola_plain_runs.specs.Runs.{as_cell, as_run}
use Rattle.cola_plain_runs.proofs.Lists.{run_from}
use Rattle.cola_plain_files.proofs.Runs.{look_taken, look_passed}
use Rattle.cola_plain_files.proofs.verdict.runs.look_keys.Goals as goal
use Rattle.cola_plain_files.proofs.verdict.runs.look_keys.Goals.{in-Look+in_ok-push-in-Look, in-Entry}

pub loop-cell-preserved : goal.loop-cell-preserved
loop-cell-preserved c =
    let behind = drop (c.loop-cell.cell-index + 1) (as_run c.args.run.now) in
    let here = run_from c.args.run.now c.loop-cell.cell-index c.cell-item.result c.loop-cell-test.true c.cell-item.is in
    elim c.match-cell.branch [
      | in-Look+in_ok-push-in-Look w ↦ look_taken (as_cell c.cell-item.result) behind _ _ _ c.loop-cell.keys.items c.match-cell.keys.items _ here (ap as_cell w.in-Look.is)
          (ap (λ v. v.items) w.keys-is ∙ w.in_ok-push-in-Look.ensures.items) c.loop-cell.invariant
      | in-Entry w ↦ look_passed (as_cell c.cell-item.result) behind _ _ _ _ _ c.loop-cell.keys.items c.match-cell.keys.items _ here (ap as_cell w.in-Entry.is)
          (ap (λ v. v.items) w.keys-is) c.loop-cell.invariant
    ]
