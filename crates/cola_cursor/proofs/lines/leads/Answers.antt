use Rattle.std.proofs.Common.{◌≡◌, Ordering, refl, sym, ap, ◌∙◌}
use Rattle.std.specs.Ordering.{is_lt, is_gt, ordering_reverse}
use Rattle.std.specs.Cmp.Lexicographic.{nat_list_cmp_total}
use Rattle.cola_cell.specs.Cell.{key_of}
use Rattle.cola_cell.specs.Order.{key_cmp}
use Rattle.cola_pairs.proofs.Order.{by_ordering}
use Rattle.cola_cursor.specs.Way.{way_cmp}
use Rattle.cola_cursor.proofs.lines.leads.Goals as goal

above : (r : Ordering) → is_gt r ≡ is_lt (ordering_reverse r)
above = by_ordering (λ r. is_gt r ≡ is_lt (ordering_reverse r)) refl refl refl

pub returns-then-falls : goal.returns-then-falls
returns-then-falls c =
    let k = key_of c.args.cell.now in
    let l = key_of c.args.other.now in
    c.is_gt.ensures ∙ ap is_gt c.cmp_keys-order.ensures ∙ above (key_cmp k l) ∙ ap is_lt (sym (nat_list_cmp_total.antisymm l k))
    ∙ sym (ap (λ b. is_lt (way_cmp b k l)) c.if-falls.true)
