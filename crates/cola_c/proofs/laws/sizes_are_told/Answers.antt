use Rattle.cola_c.proofs.TellingBytes.{sizes-told, stored-sizes-told, creations-told}
use Rattle.cola_c.proofs.laws.sizes_are_told.Goals as goal

pub returns-clause-sizes : goal.returns-clause-sizes
returns-clause-sizes c = sizes-told

pub returns-clause-stored : goal.returns-clause-stored
returns-clause-stored c = stored-sizes-told

pub returns-clause-creations : goal.returns-clause-creations
returns-clause-creations c = creations-told
