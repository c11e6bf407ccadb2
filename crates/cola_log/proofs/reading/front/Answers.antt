use Rattle.std.proofs.Common.{sym, arith}
use Rattle.std.proofs.lemmas.List.{take_all}
use Rattle.cola_log.proofs.reading.front.Goals as goal

pub returns-then-log-lt32 : goal.returns-then-log-lt32
returns-then-log-lt32 c = sym (take_all 32 c.args.log.now (omega (arith, c.if-log-lt32.true)))
