use Rattle.std.proofs.Common.{◌≡◌, ◌∙◌, ap, length, arith}
use Rattle.cola_c.proofs.Pieces.{passed, taken, none_left}
use Rattle.cola_c.proofs.journal.marked.Goals as goal

pub returns : goal.returns
returns c = λ bytes. omega (arith, c.loop-page.invariant.counted bytes, ap length (none_left c.loop-page.page c.args.marks.now bytes (omega (arith, c.loop-page-test.false))))
