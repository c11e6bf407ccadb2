use Rattle.std.proofs.Common.{ap, codes, arith}
use Rattle.std.proofs.lemmas.Fmt.{decimal_digit}
use Rattle.cola_spec.specs.Command.{Put}
use Rattle.cola_gen.proofs.laws.worked_calls.Goals as goal

pub returns-clause-first_put : goal.returns-clause-first_put
returns-clause-first_put c = ap (Put (codes "00000000")) (decimal_digit 0 (omega arith))

pub returns-clause-last_put : goal.returns-clause-last_put
returns-clause-last_put c = ap (Put (codes "3c6ef362")) (decimal_digit 2 (omega arith))
