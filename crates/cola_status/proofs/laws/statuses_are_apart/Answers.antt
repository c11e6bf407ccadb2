use Rattle.cola_status.proofs.Apart.{apart, listed}
use Rattle.cola_status.proofs.laws.statuses_are_apart.Goals as goal

pub returns-clause-apart : goal.returns-clause-apart
returns-clause-apart c = apart

pub returns-clause-listed : goal.returns-clause-listed
returns-clause-listed c = listed
