use Rattle.cola_c.proofs.Telling.{puts-told, puts-if-told}
use Rattle.cola_c.proofs.laws.puts_are_told.Goals as goal

pub returns-clause-puts : goal.returns-clause-puts
returns-clause-puts c = puts-told

pub returns-clause-puts_if : goal.returns-clause-puts_if
returns-clause-puts_if c = puts-if-told
