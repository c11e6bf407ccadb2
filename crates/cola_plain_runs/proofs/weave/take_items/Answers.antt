use Rattle.std.proofs.Common.{◌+◌, refl, true, cond, drop, arith}
use Rattle.std.specs.Option.{option_map, option_to_list}
use Rattle.cola_runs.specs.Weave.{taken}
use Rattle.cola_plain_runs.specs.Runs.{as_cell, as_run}
use Rattle.cola_plain_runs.proofs.Lists.{run_from, run_end}
use Rattle.cola_plain_runs.proofs.Weaving.{made_next, made_all, taken_cons}
use Rattle.cola_plain_runs.proofs.weave.take_items.Goals as goal

pub loop-cell-preserved : goal.loop-cell-preserved
loop-cell-preserved g c =
    let here = run_from c.args.cells.now c.loop-cell.cell-index c.cell-item.result c.loop-cell-test.true c.cell-item.is in
    made_next (taken (λ y. cond c.args.only_young y true) c.args.young) (taken_cons (λ y. cond c.args.only_young y true) c.args.young) (as_cell c.cell-item.result) (drop (c.loop-cell.cell-index + 1) (as_run c.args.cells.now))
    (as_run c.loop-cell.items.items) (option_to_list (option_map as_cell c.wanted_item.result)) (as_run c.emit_cell.new.done.items) _ _ here c.in_ok-emit_cell.ensures.emitted c.wanted_item.ensures c.loop-cell.invariant

pub returns : goal.returns
returns g c =
    let none = run_end c.args.cells.now c.loop-cell.cell-index (omega arith) in
    made_all (taken (λ y. cond c.args.only_young y true) c.args.young) refl _ _ _ none c.loop-cell.invariant
