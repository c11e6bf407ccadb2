use Rattle.cola_transfers.proofs.PaidLaws.{bound-reads, bound-writes}
use Rattle.cola_transfers.proofs.accounts.paid_chains_are_bounded.Goals as goal

pub returns-clause-reads : goal.returns-clause-reads
returns-clause-reads c = bound-reads

pub returns-clause-writes : goal.returns-clause-writes
returns-clause-writes c = bound-writes
