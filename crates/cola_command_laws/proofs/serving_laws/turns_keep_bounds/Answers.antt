use Rattle.cola_command_laws.proofs.HeadlineLaws.{ticks-within, printed-within, printed-at-most, printed-at-least}
use Rattle.cola_command_laws.proofs.serving_laws.turns_keep_bounds.Goals as goal

pub returns-clause-ticks : goal.returns-clause-ticks
returns-clause-ticks c = ticks-within

pub returns-clause-printed : goal.returns-clause-printed
returns-clause-printed c = λ cost levels turns. printed-within levels cost turns

pub returns-clause-sum_at_most : goal.returns-clause-sum_at_most
returns-clause-sum_at_most c = λ cost turns. printed-at-most 0 cost turns

pub returns-clause-sum_at_least : goal.returns-clause-sum_at_least
returns-clause-sum_at_least c = λ cost levels turns. printed-at-least levels cost turns
