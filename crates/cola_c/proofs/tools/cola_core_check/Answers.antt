use Rattle.std.proofs.Common.{rules, Ok, Err, refl}
use Rattle.cola_c.proofs.tools.cola_core_check.Goals as goal

pub returns-in-Ok : goal.returns-in-Ok
returns-in-Ok c = record {
  answer = Ok c.in-Ok.verdict;
  from = c.in-Ok.ensures.0;
  to = c.in-Ok.ensures.1.0;
  checks = c.in-Ok.ensures.1.1;
  number_is = search (rules, c.verdict_code.ensures);
  told_is = search (rules, c.as_found.ensures);
}

pub returns-in-Err : goal.returns-in-Err
returns-in-Err c = record {
  answer = Err c.in-Err.fault;
  from = c.in-Err.ensures.0;
  to = c.in-Err.ensures.1.0;
  checks = c.in-Err.ensures.1.1;
  number_is = search (rules, c.fault_code.ensures);
  told_is = refl;
}
