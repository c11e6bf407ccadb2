use Rattle.std.proofs.Common.{sym, arith}
use Rattle.cola_plain.proofs.LineLemmas.{return_dropped, other_kept, nothing_dropped}
use Rattle.cola_plain.proofs.lines.without_return.Goals as goal
use Rattle.cola_plain.proofs.lines.without_return.Goals.{else-end-gt0-via-then-end-gt0+else-line-end-eq13, else-end-gt0-via-else-end-gt0}

pub returns-then-line-end-eq13 : goal.returns-then-line-end-eq13
returns-then-line-end-eq13 c = sym (return_dropped c.args.line.now _ (omega arith) c.if-line-end-eq13.true)

pub returns : goal.returns
returns c =
    elim c.else-end-gt0.branch [
      | else-end-gt0-via-then-end-gt0+else-line-end-eq13 w ↦ sym (other_kept c.args.line.now _ (omega arith) w.if-line-end-eq13.false)
      | else-end-gt0-via-else-end-gt0 w ↦ nothing_dropped c.args.line.now (omega arith)
    ]
