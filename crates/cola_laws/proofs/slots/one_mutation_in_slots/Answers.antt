use Rattle.cola_laws.proofs.SlotSteps.{mutation-in-slots}
use Rattle.cola_laws.proofs.slots.one_mutation_in_slots.Goals as goal

pub returns : goal.returns
returns g c = λ before after none most t map k item top built below worked s b h room few.
    mutation-in-slots g.met.K.Ord.total most before after none t map k item top built below worked s b h room few
