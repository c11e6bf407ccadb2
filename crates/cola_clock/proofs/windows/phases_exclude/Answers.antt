use Rattle.cola_clock.proofs.Laws.{before-not_over, before-not_works, before_else, works-not_over}
use Rattle.cola_clock.proofs.windows.phases_exclude.Goals as goal

pub returns-clause-before_rests : goal.returns-clause-before_rests
returns-clause-before_rests c = before-not_works

pub returns-clause-before_not_over : goal.returns-clause-before_not_over
returns-clause-before_not_over c = before-not_over

pub returns-clause-works_not_over : goal.returns-clause-works_not_over
returns-clause-works_not_over c = works-not_over

pub returns-clause-one_of_three : goal.returns-clause-one_of_three
returns-clause-one_of_three c = before_else
