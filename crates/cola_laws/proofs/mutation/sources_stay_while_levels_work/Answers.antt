use Rattle.cola_laws.proofs.Mutations.{advanced-next_runs, advanced-part, advanced-visibles}
use Rattle.cola_laws.proofs.mutation.sources_stay_while_levels_work.Goals as goal

pub returns : goal.returns
returns g c = record {
  next_runs = λ ahead t j above before after h. advanced-next_runs g.K.Ord.cmp ahead t j above before after h;
  part = λ ahead t j odd above before after h. advanced-part g.K.Ord.cmp ahead t j odd above before after h;
  visible = λ ahead t j above before after h. advanced-visibles g.K.Ord.cmp ahead t j above before after h;
}
