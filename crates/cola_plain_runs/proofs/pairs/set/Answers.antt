use Rattle.std.proofs.Common.{◌<◌, ◌∙◌, sym, ap, length, arith}
use Rattle.std.proofs.lemmas.Option.{get_or_from_slice_get, slice_get_within}
use Rattle.std.specs.Ordering.{is_eq}
use Rattle.cola_plain_runs.specs.Runs.{as_item}
use Rattle.cola_pairs.proofs.Order.{equal}
use Rattle.cola_plain_runs.proofs.Setting.{same_at, set_over, inserted, seat_of_same, stops_of_same}
use Rattle.cola_plain_runs.proofs.pairs.set.Goals as goal
use Rattle.cola_plain_runs.proofs.pairs.set.Goals.{else-at-len-via-then-at-len+else-is_eq, else-at-len-via-else-at-len}

pub returns-then-is_eq : goal.returns-then-is_eq
returns-then-is_eq g c =
    let n = ap length c.as_slice.ensures.value in
    let inside : c.seat-at.result < length c.args.entries.now.items = omega (arith, n, c.as_slice.ensures.len, c.len.ensures) in
    set_over g.K.Ord.cmp c.args.entries.now.items c.seat-at.result c.args.key c.args.item c.index-then-is_eq.result.now inside c.index-then-is_eq.ensures
    (ap (λ x. g.K.Ord.cmp c.args.key x.0) (same_at c.args.entries.now.items c.seat-at.result c.index-then-is_eq.result.now c.index.result.now inside c.index-then-is_eq.ensures c.index.ensures) ∙ sym c.cmp.ensures ∙ equal c.cmp.result (sym c.is_eq.ensures ∙ c.if-is_eq.true))
    (seat_of_same g.K.Ord.cmp c.args.key (as_item c.args.item) c.seat-at.result c.as_slice.result.now c.args.entries.now.items c.as_slice.ensures.value (c.seat-at.ensures.rest (as_item c.args.item)))

pub returns-in_ok-insert : goal.returns-in_ok-insert
returns-in_ok-insert g c =
    let n = ap length c.as_slice.ensures.value in
    elim c.else-at-len.branch [
      | else-at-len-via-then-at-len+else-is_eq w ↦
          inserted g.K.Ord.cmp c.args.entries.now.items c.insert.new.self.items c.seat-at.result c.args.key c.args.item c.in_ok-insert.ensures.items
          (stops_of_same g.K.Ord.cmp c.args.key c.seat-at.result c.as_slice.result.now c.args.entries.now.items c.as_slice.ensures.value c.seat-at.ensures.stops)
          (λ d e. ap (λ x. is_eq (g.K.Ord.cmp c.args.key x.0)) (sym (w.index.ensures ∙ get_or_from_slice_get c.args.entries.now.items c.seat-at.result d w.index.result.now e))
          ∙ ap is_eq (sym w.cmp.ensures) ∙ sym w.is_eq.ensures ∙ w.if-is_eq.false)
          (seat_of_same g.K.Ord.cmp c.args.key (as_item c.args.item) c.seat-at.result c.as_slice.result.now c.args.entries.now.items c.as_slice.ensures.value (c.seat-at.ensures.rest (as_item c.args.item)))
      | else-at-len-via-else-at-len w ↦
          inserted g.K.Ord.cmp c.args.entries.now.items c.insert.new.self.items c.seat-at.result c.args.key c.args.item c.in_ok-insert.ensures.items
          (stops_of_same g.K.Ord.cmp c.args.key c.seat-at.result c.as_slice.result.now c.args.entries.now.items c.as_slice.ensures.value c.seat-at.ensures.stops)
          (λ d e. let i = slice_get_within c.args.entries.now.items c.seat-at.result d e in absurd (omega (arith, n, c.as_slice.ensures.len, c.len.ensures, w.if-at-len.false)))
          (seat_of_same g.K.Ord.cmp c.args.key (as_item c.args.item) c.seat-at.result c.as_slice.result.now c.args.entries.now.items c.as_slice.ensures.value (c.seat-at.ensures.rest (as_item c.args.item)))
    ]
