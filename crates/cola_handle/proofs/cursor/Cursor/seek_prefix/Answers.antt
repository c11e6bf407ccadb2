use Rattle.std.proofs.Common.{arith}
use Rattle.cola_handle.proofs.Between.{set-below, set-onward, ahead-prefix}
use Rattle.cola_handle.proofs.cursor.Cursor.seek_prefix.Goals as goal

pub returns-in-Some-clause-ahead : goal.returns-in-Some-clause-ahead
returns-in-Some-clause-ahead c = λ m bytes.
    ahead-prefix m c.args.prefix.now c.seek.result bytes
    (set-below c.args.prefix.now c.bytes.result.now c.in-Some.end c.seek.result c.seek.ensures.says (omega (arith, c.if-prefix-gt40.false)) c.bytes.ensures.limits.1 c.bytes.ensures.value c.in-Some.ensures)

pub returns-in-None-clause-ahead : goal.returns-in-None-clause-ahead
returns-in-None-clause-ahead c = λ m bytes.
    ahead-prefix m c.args.prefix.now c.seek-in-None.result bytes
    (set-onward c.args.prefix.now c.seek-in-None.result c.seek-in-None.ensures.says (omega (arith, c.if-prefix-gt40.false)) c.in-None.ensures)
