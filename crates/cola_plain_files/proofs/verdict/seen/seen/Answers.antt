use Rattle.std.proofs.Common.{◌∙◌, sym, ap}
use Rattle.cola_cell.specs.Order.{key_cmp}
use Rattle.cola_runs.specs.Seen.{seen}
use Rattle.cola_plain_runs.specs.Runs.{as_cell}
use Rattle.cola_plain_runs.proofs.Lists.{run_from}
use Rattle.cola_plain_files.specs.Levels.{as_seen}
use Rattle.cola_plain_files.proofs.Seen.{seen_none, seen_some}
use Rattle.cola_plain_files.proofs.verdict.seen.seen.Goals as goal

pub loop-cell-preserved : goal.loop-cell-preserved
loop-cell-preserved c =
    let here = run_from c.args.run.now c.loop-cell.cell-index c.cell-item.result c.loop-cell-test.true c.cell-item.is in
    c.loop-cell.invariant ∙ ap (seen key_cmp c.args.sought.now) here
    ∙ seen_none c.args.sought.now (as_cell c.cell-item.result) _ (sym c.seen_in.ensures ∙ ap as_seen c.in-Nothing.is)

pub returns-in_default : goal.returns-in_default
returns-in_default c =
    let here = run_from c.args.run.now c.loop-cell.cell-index c.cell-item.result c.loop-cell-test.true c.cell-item.is in
    seen_some c.args.sought.now (as_cell c.cell-item.result) _ c.seen_in.result c.in_default.not-Nothing c.seen_in.ensures
    ∙ sym (c.loop-cell.invariant ∙ ap (seen key_cmp c.args.sought.now) here)
