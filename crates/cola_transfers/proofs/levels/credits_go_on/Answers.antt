use Rattle.cola_transfers.proofs.CreditLaws.{credit-next, credit-working, credits_all}
use Rattle.cola_transfers.proofs.levels.credits_go_on.Goals as goal

pub returns-clause-next : goal.returns-clause-next
returns-clause-next c = credit-next

pub returns-clause-working : goal.returns-clause-working
returns-clause-working c = credit-working

pub returns-clause-together : goal.returns-clause-together
returns-clause-together c = credits_all
