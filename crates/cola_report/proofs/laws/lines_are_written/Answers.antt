use Rattle.cola_report.proofs.Written.{says}
use Rattle.cola_report.proofs.laws.lines_are_written.Goals as goal

pub returns : goal.returns
returns g c = λ text success status sink sink' ends. says g.K.Sink text success status sink sink' ends
