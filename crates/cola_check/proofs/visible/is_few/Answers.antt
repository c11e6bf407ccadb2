use Rattle.std.proofs.Common.{◌↔◌, IsTrue, sym, subst, arith}
use Rattle.cola_check.proofs.Common.{Few, IsFew}
use Rattle.cola_runs.proofs.Counts.{length_counts}
use Rattle.cola_check.proofs.visible.is_few.Goals as goal

pub returns-in-Items : goal.returns-in-Items
returns-in-Items c = λ lists cells is.
    let all = length_counts cells in
    let holds = c.has_few_items.ensures in
    subst (λ (f : Few). IsTrue c.has_few_items.result ↔ IsFew f cells) (sym c.in-Items.is) (
      λ t. let h = holds.0 t in let a = h.0 in let b = h.1 in record { few_items = omega (arith, all, is.place_is, is.looks_is, a); few_young = omega (arith, is.young_is, b) },
      λ h. let a = h.few_items in let b = h.few_young in holds.1 (omega (arith, all, is.place_is, is.looks_is, a), omega (arith, is.young_is, b)),
    )
