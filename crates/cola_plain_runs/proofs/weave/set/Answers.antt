use Rattle.std.proofs.Common.{◌<◌, ◌∙◌, sym, ap, length, arith}
use Rattle.std.proofs.lemmas.Option.{get_or_from_slice_get, slice_get_within}
use Rattle.std.specs.Ordering.{is_eq}
use Rattle.cola_runs.specs.Cells.{place_cmp}
use Rattle.cola_plain_runs.specs.Runs.{as_cell}
use Rattle.cola_runs.proofs.Order.{equal_is}
use Rattle.cola_plain_runs.proofs.Lists.{run_from}
use Rattle.cola_plain_runs.proofs.Weaving.{set_over, inserted, seat_of_same, stops_of_same}
use Rattle.cola_plain_runs.proofs.weave.set.Goals as goal
use Rattle.cola_plain_runs.proofs.weave.set.Goals.{else-at-len-via-then-at-len+else-is_eq, else-at-len-via-else-at-len}

pub returns-then-is_eq : goal.returns-then-is_eq
returns-then-is_eq g c =
    let n = ap length c.as_slice.ensures.value in
    let inside : c.seat-at.result < length c.args.cells.now.items = omega (arith, n, c.as_slice.ensures.len, c.len.ensures) in
    set_over g.K.Ord.cmp c.args.cells.now.items c.seat-at.result c.args.cell.now c.index.result.now inside (run_from c.args.cells.now.items c.seat-at.result c.index.result.now inside c.index.ensures)
    (sym c.compare.ensures ∙ equal_is c.compare.result (sym c.is_eq.ensures ∙ c.if-is_eq.true))
    (seat_of_same g.K.Ord.cmp (as_cell c.args.cell.now) c.seat-at.result c.as_slice.result.now c.args.cells.now.items c.as_slice.ensures.value c.seat-at.ensures.rest)

pub returns-in_ok-insert : goal.returns-in_ok-insert
returns-in_ok-insert g c =
    let n = ap length c.as_slice.ensures.value in
    elim c.else-at-len.branch [
      | else-at-len-via-then-at-len+else-is_eq w ↦
          inserted g.K.Ord.cmp c.args.cells.now.items c.insert.new.self.items c.seat-at.result c.args.cell.now c.in_ok-insert.ensures.items
          (stops_of_same g.K.Ord.cmp (as_cell c.args.cell.now) c.seat-at.result c.as_slice.result.now c.args.cells.now.items c.as_slice.ensures.value c.seat-at.ensures.stops)
          (λ d e. ap (λ x. is_eq (place_cmp g.K.Ord.cmp (as_cell c.args.cell.now) (as_cell x))) (sym (w.index.ensures ∙ get_or_from_slice_get c.args.cells.now.items c.seat-at.result d w.index.result.now e))
          ∙ ap is_eq (sym w.compare.ensures) ∙ sym w.is_eq.ensures ∙ w.if-is_eq.false)
          (seat_of_same g.K.Ord.cmp (as_cell c.args.cell.now) c.seat-at.result c.as_slice.result.now c.args.cells.now.items c.as_slice.ensures.value c.seat-at.ensures.rest)
      | else-at-len-via-else-at-len w ↦
          inserted g.K.Ord.cmp c.args.cells.now.items c.insert.new.self.items c.seat-at.result c.args.cell.now c.in_ok-insert.ensures.items
          (stops_of_same g.K.Ord.cmp (as_cell c.args.cell.now) c.seat-at.result c.as_slice.result.now c.args.cells.now.items c.as_slice.ensures.value c.seat-at.ensures.stops)
          (λ d e. let i = slice_get_within c.args.cells.now.items c.seat-at.result d e in absurd (omega (arith, n, c.as_slice.ensures.len, c.len.ensures, w.if-at-len.false)))
          (seat_of_same g.K.Ord.cmp (as_cell c.args.cell.now) c.seat-at.result c.as_slice.result.now c.args.cells.now.items c.as_slice.ensures.value c.seat-at.ensures.rest)
    ]
