use Rattle.cola_mutation.proofs.MapLemmas.{few-found}
use Rattle.cola_mutation.proofs.maps.few_keys_are_few.Goals as goal

pub returns : goal.returns
returns c = few-found
