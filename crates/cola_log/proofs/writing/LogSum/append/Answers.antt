use Rattle.std.proofs.Common.{arith}
use Rattle.cola_log.proofs.Appending.{refused_small, is_appended}
use Rattle.cola_log.proofs.writing.LogSum.append.Goals as goal

pub returns-then-into-size : goal.returns-then-into-size
returns-then-into-size c = refused_small _ _ _ c.key-key.result.now c.value-value.result.now c.key-key.ensures c.value-value.ensures c.if-into-size.true

pub returns : goal.returns
returns c =
    is_appended _ c.args.into.now c.write_on.new.into c.write_on-2.new.into c.write_on-3.new.into c.write_on-4.new.into c.head-before.result c.key-key.result.now c.value-value.result.now c.chained-sum.result _
    c.head-before.ensures c.key-key.ensures c.value-value.ensures c.if-key-gt255.false c.if-value-gt255.false c.if-into-size.false
    c.write_on.ensures.written c.write_on-2.ensures.written c.write_on-3.ensures.written c.chained-sum.ensures c.write_on-4.ensures.written
