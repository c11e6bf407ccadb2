use Rattle.std.proofs.Common.{sym, ap, ◌∙◌}
use Rattle.std.specs.Prelude.{option_copied}
use Rattle.cola_merge.specs.Fetched.{Head}
use Rattle.cola_merge.proofs.rules.emit_item_or_look.Goals as goal

pub returns-in-Some-clause-suits : goal.returns-in-Some-clause-suits
returns-in-Some-clause-suits c = λ m head sample.
    c.look.ensures.suits m c.in-Some.next.now (ap (λ (h : Head). h.cell) sample ∙ sym c.cell.ensures ∙ ap option_copied c.in-Some.is)
