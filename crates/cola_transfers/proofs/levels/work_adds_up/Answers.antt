use Rattle.cola_transfers.proofs.WorkLaws.{work-reads}
use Rattle.cola_transfers.proofs.WriteLaws.{work-writes}
use Rattle.cola_transfers.proofs.levels.work_adds_up.Goals as goal

pub returns-clause-reads : goal.returns-clause-reads
returns-clause-reads c = work-reads

pub returns-clause-writes : goal.returns-clause-writes
returns-clause-writes c = λ d t i above levels worked old new h marks tidy. (work-writes d t i above levels worked old new h marks tidy).writes

pub returns-clause-tidy : goal.returns-clause-tidy
returns-clause-tidy c = λ d t i above levels worked old new h marks tidy. (work-writes d t i above levels worked old new h marks tidy).tidy
