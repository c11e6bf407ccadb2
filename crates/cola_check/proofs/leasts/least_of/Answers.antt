use Rattle.std.proofs.Common.{◌-◌, length, sym, ◌∙◌, arith}
use Rattle.cola_check.proofs.Common.{eqb-false}
use Rattle.cola_check.proofs.LeastKeys.{last-is}
use Rattle.cola_check.proofs.leasts.least_of.Goals as goal

pub returns : goal.returns
returns c = λ levels are. last-is c.args.leasts.now levels are (length c.args.leasts.now - 1) c.index-leasts-leasts.result (let some = eqb-false (length c.args.leasts.now) 0 (sym c.is_empty.ensures ∙ c.if-is_empty.false) in omega (arith, some)) c.index-leasts-leasts.is
