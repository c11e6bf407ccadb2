-- Some front of the line was written.
use Rattle.std.proofs.Common.{refl}
use Rattle.cola_report.specs.Line.LineEnds.{WroteFront}
use Rattle.cola_report.proofs.writing.write_line.Goals as goal

pub returns-in-Err : goal.returns-in-Err
returns-in-Err g c = WroteFront refl c.in-Err.ensures.front.0 c.in-Err.ensures.front.2 c.in-Err.ensures.faults_counted
