use Rattle.std.proofs.Common.{not, cond, sym, ap, ◌∙◌}
use Rattle.std.specs.Ordering.{is_lt, is_le}
use Rattle.cola_cell.specs.Cell.{key_of}
use Rattle.cola_cell.specs.Order.{key_cmp}
use Rattle.cola_cursor.specs.Way.{within_end}
use Rattle.cola_cursor.proofs.Keys.{not_below_low}
use Rattle.cola_cursor.proofs.lines.is_within.Goals as goal

pub returns-then-falls : goal.returns-then-falls
returns-then-falls c =
    let k = key_of c.args.cell.now in
    ap not (c.is_lt.ensures ∙ ap is_lt c.key_cmp-order.ensures) ∙ not_below_low c.in-Some.end k
    ∙ sym (ap (λ e. within_end c.args.falls e k) c.in-Some.is ∙ ap (λ b. cond b (is_le (key_cmp c.in-Some.end k)) (is_lt (key_cmp k c.in-Some.end))) c.if-falls.true)
