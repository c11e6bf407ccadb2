use Rattle.cola_cell.proofs.RunLemmas.{telling_stays}
use Rattle.cola_cell.proofs.object_laws.telling_stays.Goals as goal

pub returns : goal.returns
returns c = λ old new level a t. telling_stays old new level a t
