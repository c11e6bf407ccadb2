use Rattle.std.proofs.Common.{rules, refl}
use Rattle.cola_handle.specs.declared.answer.Answer.TheVariants as answer
use Rattle.cola_c.proofs.Unwritten.{unwritten}
use Rattle.cola_c.proofs.cola_core_stored_size.Goals as goal

pub returns-in-Ok : goal.returns-in-Ok
returns-in-Ok c file begins = record { answer = answer.Done; number_is = search (rules, c.code.ensures); says = c.in-Ok.ensures file begins }

pub returns-in-Err : goal.returns-in-Err
returns-in-Err c file begins = record {
  answer = c.in-Err.why;
  number_is = search (rules, c.code-in-Err.ensures);
  says = unwritten c.in-Err.why file c.args.bytes.now (c.in-Err.ensures file begins);
}
