use Rattle.cola_cell.proofs.CostsLemmas.{costs_none, costs_read, costs_then, cause_of_read, cause_later}
use Rattle.cola_cell.proofs.object_laws.costs_add_up.Goals as goal

pub returns : goal.returns
returns c = record {
  none = λ spent steps. costs_none spent steps;
  read = λ old new buffer level slot index before after result h e. costs_read h e;
  refused = λ old new buffer level slot index fault p r. cause_of_read fault p r;
  later = λ held before between now fault h c. cause_later held before between now fault h c;
  both = λ first second third before between after ticks turns more others h k. costs_then h k;
}
