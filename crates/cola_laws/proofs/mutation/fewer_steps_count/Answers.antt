use Rattle.cola_laws.proofs.Mutations.{all-fewer, none-advanced}
use Rattle.cola_laws.proofs.mutation.fewer_steps_count.Goals as goal

pub returns : goal.returns
returns g c = record {
  fewer = λ ahead less t j above before after h a. all-fewer g.K.Ord.cmp ahead less t j above before after h a;
  none = λ ahead t j above levels p. none-advanced g.K.Ord.cmp ahead t j above levels p;
}
