use Rattle.std.proofs.Common.{◌∙◌, sym, ap}
use Rattle.std.proofs.lemmas.Option.{get_or_from_slice_get}
use Rattle.cola_runs.specs.Cells.{place_cmp}
use Rattle.cola_plain_runs.specs.Runs.{as_cell, as_run}
use Rattle.cola_plain_runs.proofs.Lists.{run_from}
use Rattle.cola_plain_runs.proofs.Weaving.{seat_next, nothing_at_end, is_greater, not_greater}
use Rattle.cola_plain_runs.proofs.weave.seat.Goals as goal

pub loop-i-preserved : goal.loop-i-preserved
loop-i-preserved g c =
    let here = run_from c.args.cells.now c.loop-i.i c.index-cells-i.result c.loop-i-test.true c.index-cells-i.is in
    seat_next g.K.Ord.cmp (as_cell c.args.cell.now) (as_cell c.index-cells-i.result) (as_run c.args.cells.now) _ c.loop-i.i here
    (sym c.compare.ensures ∙ is_greater c.compare.result (sym c.is_gt.ensures ∙ c.if-not-is_gt.false)) c.loop-i.invariant

pub returns-then-not-is_gt-clause-stops : goal.returns-then-not-is_gt-clause-stops
returns-then-not-is_gt-clause-stops g c = λ d e f.
    let same = sym (get_or_from_slice_get c.args.cells.now c.loop-i.i d c.index-cells-i.result e) in
    not_greater c.compare.result (sym c.is_gt.ensures ∙ c.if-not-is_gt.true)
    (c.compare.ensures ∙ ap (λ x. place_cmp g.K.Ord.cmp (as_cell c.args.cell.now) (as_cell x)) (c.index-cells-i.is ∙ sym same) ∙ f)

pub returns-clause-stops : goal.returns-clause-stops
returns-clause-stops g c = λ d e f. nothing_at_end c.args.cells.now d e
