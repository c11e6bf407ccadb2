use Rattle.cola_clock.proofs.MarkLaws.{marks-fewer, marks-same}
use Rattle.cola_clock.proofs.marks.marks_stay.Goals as goal

pub returns-clause-fewer : goal.returns-clause-fewer
returns-clause-fewer c = marks-fewer

pub returns-clause-same_schedule : goal.returns-clause-same_schedule
returns-clause-same_schedule c = marks-same
