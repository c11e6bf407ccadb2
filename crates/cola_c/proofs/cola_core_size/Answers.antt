use Rattle.std.proofs.Common.{rules, refl}
use Rattle.cola_handle.specs.declared.answer.Answer.TheVariants as answer
use Rattle.cola_c.proofs.cola_core_size.Goals as goal

pub returns-in-Some : goal.returns-in-Some
returns-in-Some c = record { answer = answer.Done; number_is = search (rules, c.code.ensures); says = c.in-Some.ensures }

pub returns-in-None : goal.returns-in-None
returns-in-None c = record { answer = answer.Options; number_is = search (rules, c.code-in-None.ensures); says = (c.in-None.ensures, refl) }
