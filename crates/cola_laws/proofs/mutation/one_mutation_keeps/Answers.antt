use Rattle.cola_laws.proofs.Mutations.{mutation}
use Rattle.cola_laws.proofs.mutation.one_mutation_keeps.Goals as goal

pub returns : goal.returns
returns g c = λ most t map k item top built below worked s b h room few. mutation g.met.K.Ord.total most t map k item top built below worked s b h room few
