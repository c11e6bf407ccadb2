use Rattle.std.proofs.Common.{◌+◌, refl, drop, arith}
use Rattle.std.specs.Option.{option_map, option_to_list}
use Rattle.std.specs.List.{filter}
use Rattle.cola_runs.specs.Weave.{stays}
use Rattle.cola_plain_runs.specs.Runs.{as_cell, as_run, as_part}
use Rattle.cola_plain_runs.proofs.Lists.{run_from, run_end}
use Rattle.cola_plain_runs.proofs.Weaving.{made_next, made_all, filter_cons}
use Rattle.cola_plain_runs.proofs.weave.keep_cells.Goals as goal

pub loop-cell-preserved : goal.loop-cell-preserved
loop-cell-preserved g c =
    let here = run_from c.args.cells.now c.loop-cell.cell-index c.cell-item.result c.loop-cell-test.true c.cell-item.is in
    made_next (filter (stays (as_part c.args.part.now))) (filter_cons (stays (as_part c.args.part.now))) (as_cell c.cell-item.result) (drop (c.loop-cell.cell-index + 1) (as_run c.args.cells.now))
    (as_run c.loop-cell.kept.items) (option_to_list (option_map as_cell c.kept_cell.result)) (as_run c.emit_cell.new.done.items) _ _ here c.in_ok-emit_cell.ensures.emitted c.kept_cell.ensures c.loop-cell.invariant

pub returns : goal.returns
returns g c =
    let none = run_end c.args.cells.now c.loop-cell.cell-index (omega arith) in
    made_all (filter (stays (as_part c.args.part.now))) refl _ _ _ none c.loop-cell.invariant
