use Rattle.cola_laws.proofs.Mutations.{advance}
use Rattle.cola_laws.proofs.mutation.steps_keep_soundness.Goals as goal

pub returns : goal.returns
returns g c = λ most ahead t map top top_after below below_after s e h. advance g.K.Ord.cmp most ahead t map top top_after below below_after s e h
