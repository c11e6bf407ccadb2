use Rattle.cola_clock.proofs.MarkLaws.{end-at, end-past, marks-all, marks-each}
use Rattle.cola_clock.proofs.marks.marks_by_level.Goals as goal

pub returns-clause-each : goal.returns-clause-each
returns-clause-each c = marks-each

pub returns-clause-all : goal.returns-clause-all
returns-clause-all c = marks-all

pub returns-clause-sample_end : goal.returns-clause-sample_end
returns-clause-sample_end c = end-at

pub returns-clause-at_bottom : goal.returns-clause-at_bottom
returns-clause-at_bottom c = end-past
