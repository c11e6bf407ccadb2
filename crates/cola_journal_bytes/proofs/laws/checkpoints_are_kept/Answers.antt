use Rattle.std.proofs.Common.{refl}
use Rattle.cola_journal_bytes.specs.Applied.{pages_read}
use Rattle.cola_journal_bytes.proofs.AppliedLemmas.{has_14}
use Rattle.cola_journal_bytes.proofs.laws.checkpoints_are_kept.Goals as goal

pub returns-clause-safe : goal.returns-clause-safe
returns-clause-safe c = c.checkpoints_are_kept.ensures.safe pages_read refl has_14

pub returns-clause-settled : goal.returns-clause-settled
returns-clause-settled c = c.checkpoints_are_kept.ensures.settled pages_read refl has_14

pub returns-clause-turns : goal.returns-clause-turns
returns-clause-turns c = c.checkpoints_are_kept.ensures.turns pages_read refl has_14

pub returns-clause-told : goal.returns-clause-told
returns-clause-told c = c.checkpoints_are_kept.ensures.told pages_read refl has_14
