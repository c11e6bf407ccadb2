use Rattle.cola_io.proofs.LineLaws.{lines_read}
use Rattle.cola_io.proofs.law.lines_are_read.Goals as goal

pub returns : goal.returns
returns c = lines_read
