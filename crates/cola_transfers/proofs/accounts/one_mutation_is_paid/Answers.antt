use Rattle.cola_transfers.proofs.PaidLaws.{paid-next, paid-wrapped, paid-same, counting-next}
use Rattle.cola_transfers.proofs.accounts.one_mutation_is_paid.Goals as goal

pub returns-clause-next : goal.returns-clause-next
returns-clause-next c = paid-next

pub returns-clause-wrapped : goal.returns-clause-wrapped
returns-clause-wrapped c = paid-wrapped

pub returns-clause-same_schedule : goal.returns-clause-same_schedule
returns-clause-same_schedule c = paid-same

pub returns-clause-counting : goal.returns-clause-counting
returns-clause-counting c = counting-next
