use Rattle.cola_clock.proofs.MarkLaws.{marks-next, marks-wrapped, next-level}
use Rattle.cola_clock.proofs.marks.marks_go_on.Goals as goal

pub returns-clause-one_level : goal.returns-clause-one_level
returns-clause-one_level c = next-level

pub returns-clause-all_levels : goal.returns-clause-all_levels
returns-clause-all_levels c = marks-next

pub returns-clause-wrapped : goal.returns-clause-wrapped
returns-clause-wrapped c = marks-wrapped
