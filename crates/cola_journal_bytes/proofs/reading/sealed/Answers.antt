use Rattle.std.proofs.Common.{refl, take}
use Rattle.cola_journal_bytes.proofs.JournalLemmas.{sealed_by}
use Rattle.cola_journal_bytes.proofs.reading.sealed.Goals as goal

pub returns-then-same : goal.returns-then-same
returns-then-same c =
    sealed_by c.args.bytes.now (take 8 c.args.bytes.now) _ _ _ c.same.result c.same-then-same.result c.if-same.true c.same.ensures refl c.same-then-same.ensures c.split_at.ensures.back c.digest.ensures c.split_at.ensures.front
