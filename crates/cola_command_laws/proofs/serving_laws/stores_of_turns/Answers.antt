use Rattle.std.proofs.Common.{refl}
use Rattle.cola_command_laws.proofs.serving_laws.stores_of_turns.Goals as goal

pub returns-clause-stores : goal.returns-clause-stores
returns-clause-stores c = refl

pub returns-clause-mutations : goal.returns-clause-mutations
returns-clause-mutations c = refl

pub returns-clause-searches : goal.returns-clause-searches
returns-clause-searches c = refl

pub returns-clause-writes : goal.returns-clause-writes
returns-clause-writes c = refl

pub returns-clause-reads : goal.returns-clause-reads
returns-clause-reads c = refl

pub returns-clause-cached : goal.returns-clause-cached
returns-clause-cached c = refl
