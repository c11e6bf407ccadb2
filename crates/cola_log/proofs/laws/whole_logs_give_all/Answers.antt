use Rattle.cola_log.proofs.Records.{whole_read}
use Rattle.cola_log.proofs.laws.whole_logs_give_all.Goals as goal

pub returns : goal.returns
returns c = whole_read
