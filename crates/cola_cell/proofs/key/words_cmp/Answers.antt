use Rattle.std.proofs.Common.{arith, ◌∙◌}
use Rattle.cola_cell.proofs.KeyWords.{words-same, words-differ}
use Rattle.cola_cell.proofs.key.words_cmp.Goals as goal

pub loop-word-preserved : goal.loop-word-preserved
loop-word-preserved c =
    words-same c.loop-word.word c.read_u64-first.result c.read_u64-second.result c.args.left.now c.args.right.now (omega arith) (omega arith)
    (λ i. let fits = c.type_inv.left i in omega arith) (λ i. let fits = c.type_inv.right i in omega arith)
    c.read_u64-first.ensures c.read_u64-second.ensures (omega arith) c.loop-word.invariant

pub returns-then-first-second : goal.returns-then-first-second
returns-then-first-second c =
    c.cmp.ensures
    ∙ words-differ c.loop-word.word c.read_u64-first.result c.read_u64-second.result c.args.left.now c.args.right.now (omega arith) (omega arith)
    (λ i. let fits = c.type_inv.left i in omega arith) (λ i. let fits = c.type_inv.right i in omega arith)
    c.read_u64-first.ensures c.read_u64-second.ensures (λ e. c.if-first-second.true e) c.loop-word.invariant
