use Rattle.cola_mutation.proofs.MapLemmas.{found-put, found-delete}
use Rattle.cola_mutation.proofs.maps.one_key_is_updated.Goals as goal

pub returns-clause-put : goal.returns-clause-put
returns-clause-put c = found-put

pub returns-clause-delete : goal.returns-clause-delete
returns-clause-delete c = found-delete
