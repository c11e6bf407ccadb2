use Rattle.std.proofs.Common.{ℕ, List, sym, ap, ◌∙◌}
use Rattle.cola_mirror.specs.Differ.{first_difference}
use Rattle.cola_mirror.proofs.DifferLemmas.{difference-none, none-same, some-differ, differ-some}
use Rattle.cola_mirror.proofs.laws.first_difference_is_the_first.Goals as goal

pub returns-clause-none : goal.returns-clause-none
returns-clause-none c = λ xs ys. (none-same xs ys, λ same. ap (λ (zs : List ℕ). first_difference xs zs) (sym same) ∙ difference-none xs)

pub returns-clause-some : goal.returns-clause-some
returns-clause-some c = λ xs ys place. (some-differ xs ys place, differ-some xs ys place)
