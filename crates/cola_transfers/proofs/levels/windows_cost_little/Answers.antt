use Rattle.cola_transfers.proofs.FlipLaws.{shadow_few}
use Rattle.cola_transfers.proofs.PaidLaws.{merge_all}
use Rattle.cola_transfers.proofs.levels.windows_cost_little.Goals as goal

pub returns-clause-reads : goal.returns-clause-reads
returns-clause-reads c = merge_all

pub returns-clause-writes : goal.returns-clause-writes
returns-clause-writes c = shadow_few
