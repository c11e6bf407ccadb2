use Rattle.cola_transfers.proofs.PaidLaws.{done-all, kept-all}
use Rattle.cola_transfers.proofs.levels.merges_end_in_time.Goals as goal

pub returns-clause-ended : goal.returns-clause-ended
returns-clause-ended c = done-all

pub returns-clause-kept : goal.returns-clause-kept
returns-clause-kept c = kept-all
