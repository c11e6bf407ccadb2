use Rattle.std.proofs.Common.{◌≡◌, List, ℕ, ◌++◌, ap, ◌∙◌, arith, decimal, codes}
use Rattle.std.proofs.lemmas.Fmt.{decimal_digit}
use Rattle.cola_spec.specs.Reply.{line}
use Rattle.cola_workload.proofs.laws.worked_lines.Goals as goal

-- a line of five numbers as they are spelled
abbrev of : List ℕ → List ℕ → List ℕ → List ℕ → List ℕ → List ℕ
of fresh gone left wrong over = line (codes "new " ++ fresh ++ codes " gone " ++ gone ++ codes " left " ++ left ++ codes " wrong " ++ wrong ++ codes " over " ++ over)

spelled : {a b c d e a' b' c' d' e' : List ℕ} → a ≡ a' → b ≡ b' → c ≡ c' → d ≡ d' → e ≡ e' → of a b c d e ≡ of a' b' c' d' e'
spelled p q r s t = λ i. of (p i) (q i) (r i) (s i) (t i)

pub returns-clause-each : goal.returns-clause-each
returns-clause-each c = λ tally fresh gone wrong over.
    spelled (ap decimal fresh ∙ decimal_digit 1 (omega arith)) (ap decimal gone ∙ decimal_digit 2 (omega arith)) (decimal_digit 3 (omega arith)) (ap decimal wrong ∙ decimal_digit 4 (omega arith)) (ap decimal over ∙ decimal_digit 5 (omega arith))

pub returns-clause-right : goal.returns-clause-right
returns-clause-right c = spelled (decimal_digit 3 (omega arith)) (decimal_digit 2 (omega arith)) (decimal_digit 1 (omega arith)) (decimal_digit 0 (omega arith)) (decimal_digit 0 (omega arith))
