use Rattle.std.proofs.Common.{List, ℕ, Some, ap, codes, refl, arith}
use Rattle.std.proofs.lemmas.Fmt.{decimal_digit}
use Rattle.std.specs.Prelude.{not}
use Rattle.cola_gen.specs.Turns.{same}
use Rattle.cola_gen.proofs.laws.turns_count.Goals as goal

pub returns-clause-right : goal.returns-clause-right
returns-clause-right c = (ap (λ (value : List ℕ). not (same (Some (codes "1")) (Some value))) (decimal_digit 1 (omega arith)), refl)

pub returns-clause-wrong : goal.returns-clause-wrong
returns-clause-wrong c = (refl, (ap (λ (value : List ℕ). not (same (Some (codes "2")) (Some value))) (decimal_digit 1 (omega arith)), refl))
