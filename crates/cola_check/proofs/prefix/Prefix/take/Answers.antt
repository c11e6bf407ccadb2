use Rattle.std.proofs.Common.{◌++◌, ◌∷◌, [], Option, refl, sym, subst, arith, length-append}
use Rattle.cola_check.proofs.Common.{Cell, as_cell, IsLast}
use Rattle.cola_check.proofs.Prefixes.{sample-more, sample-less}
use Rattle.cola_runs.proofs.Stepping.{looks_append, young_append}
use Rattle.cola_check.proofs.prefix.Prefix.take.Goals as goal

pub returns-clause-seen : goal.returns-clause-seen
returns-clause-seen c = λ lists cells is suits.
    let s = c.args.self.now in
    let one = as_cell c.args.cell.now in
    let sampled = c.is_sampled_with-is_sampled.ensures in
    record {
      place_is = let a = is.place_is in let b = length-append cells (one ∷ []) in omega (arith, a, b);
      looks_is = let a = is.looks_is in let b = looks_append cells (one ∷ []) in let d = c.looks_of.ensures.value in omega (arith, a, b, d);
      young_is = let a = is.young_is in let b = young_append cells (one ∷ []) in let d = c.young_of.ensures.value in omega (arith, a, b, d);
      last_is = subst (λ (l : Option Cell). IsLast (cells ++ one ∷ []) l) (sym c.put.ensures) (cells, refl);
      order_is = c.disorder_with-disorder.ensures.order lists cells is;
      sampled_is = (
        λ t. let both = sampled.0 t in sample-more cells s.looks is.looks_is lists one (is.sampled_is.0 both.0) (suits.0 both.1),
        λ b. let both = sample-less cells s.looks is.looks_is lists one b in sampled.1 (is.sampled_is.1 both.0, suits.1 both.1),
      );
    }
