use Rattle.cola_command.proofs.Rising.{faults-rise}
use Rattle.cola_command_laws.proofs.HeadlineLaws.{none-faulted}
use Rattle.cola_command_laws.proofs.serving_laws.turns_count_faults.Goals as goal

pub returns-clause-at_most : goal.returns-clause-at_most
returns-clause-at_most c = faults-rise

pub returns-clause-none : goal.returns-clause-none
returns-clause-none c = none-faulted
