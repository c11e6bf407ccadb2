use Rattle.cola_opening.proofs.Apart.{one-header, not-small, not-none, none-not_small}
use Rattle.cola_opening.proofs.laws.answers_exclude_each_other.Goals as goal

pub returns-clause-small : goal.returns-clause-small
returns-clause-small c = not-small

pub returns-clause-none : goal.returns-clause-none
returns-clause-none c = not-none

pub returns-clause-apart : goal.returns-clause-apart
returns-clause-apart c = none-not_small

pub returns-clause-one : goal.returns-clause-one
returns-clause-one c = one-header
