use Rattle.cola_laws.proofs.Mutations.{refusal}
use Rattle.cola_laws.proofs.mutation.refused_mutation_keeps.Goals as goal

pub returns : goal.returns
returns g c = λ most t map top top_after below below_after s e idle h. refusal g.K.Ord.cmp most t map top top_after below below_after s e idle h
