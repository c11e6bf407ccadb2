-- The search stops at the cell that was read, with its item or with none.
use Rattle.std.proofs.Common.{true, false, refl, sym, ap, ◌∙◌}
use Rattle.std.specs.Ordering.{is_eq, is_lt}
use Rattle.cola_look.proofs.ScanLemmas.{stops_alone}
use Rattle.cola_look.proofs.seeking.read_alone.Goals as goal

pub returns-then-is_eq-clause-looks : goal.returns-then-is_eq-clause-looks
returns-then-is_eq-clause-looks g c = λ most.
    let read = c.in_ok-read_packed.ensures in
    let order = c.key_cmp-order.ensures in
    stops_alone c.read_packed.new.into _ most read.reads read.one_tick true (sym (ap is_lt order) ∙ sym c.is_lt.ensures ∙ c.if-is_lt.false)
    (sym (ap is_eq order) ∙ sym c.is_eq.ensures ∙ c.if-is_eq.true) refl refl c.item-sight.ensures c.link-sight.ensures

pub returns-else-is_eq-clause-looks : goal.returns-else-is_eq-clause-looks
returns-else-is_eq-clause-looks g c = λ most.
    let read = c.in_ok-read_packed.ensures in
    let order = c.key_cmp-order.ensures in
    stops_alone c.read_packed.new.into _ most read.reads read.one_tick false (sym (ap is_lt order) ∙ sym c.is_lt.ensures ∙ c.if-is_lt.false)
    (sym (ap is_eq order) ∙ sym c.is_eq.ensures ∙ c.if-is_eq.false) refl refl c.requires.none c.link-sight.ensures
