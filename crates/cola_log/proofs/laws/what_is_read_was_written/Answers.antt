use Rattle.cola_log.proofs.Spelling.{is_spelled}
use Rattle.cola_log.proofs.laws.what_is_read_was_written.Goals as goal

pub returns : goal.returns
returns c = is_spelled
