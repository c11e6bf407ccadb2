use Rattle.std.proofs.Common.{◌-◌, length, drop, sym, arith, length-drop}
use Rattle.std.proofs.lemmas.List.{drop_all, take_all}
use Rattle.cola_log.proofs.reading.behind_front.Goals as goal

pub returns-then-log-lt32 : goal.returns-then-log-lt32
returns-then-log-lt32 c = sym (drop_all 32 c.args.log.now (omega (arith, c.if-log-lt32.true)))

pub returns-else-log-lt32 : goal.returns-else-log-lt32
returns-else-log-lt32 c = take_all (length c.args.log.now - 32) (drop 32 c.args.log.now) (omega (arith, length-drop 32 c.args.log.now))
