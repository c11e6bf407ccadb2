use Rattle.std.proofs.Common.{◌≡◌, ◌-◌, ◌+◌, suc, ◌∙◌, arith}
use Rattle.cola_journal_bytes.proofs.JournalLemmas.{one_read}
use Rattle.cola_journal_bytes.proofs.reading.are_pieces.Goals as goal

pub loop-piece-preserved : goal.loop-piece-preserved
loop-piece-preserved c =
    let fewer : c.args.count - c.loop-piece.piece ≡ suc (c.args.count - (c.loop-piece.piece + 1)) = omega (arith, c.loop-piece-test.true) in
    c.loop-piece.invariant ∙ one_read _ _ _ _ _ fewer c.in-Some.ensures.some
