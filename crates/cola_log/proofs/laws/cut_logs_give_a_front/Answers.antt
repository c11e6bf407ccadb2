use Rattle.cola_log.proofs.Cutting.{cut_is_front}
use Rattle.cola_log.proofs.laws.cut_logs_give_a_front.Goals as goal

pub returns : goal.returns
returns c = cut_is_front
