use Rattle.cola_laws.proofs.Facts.{works-advanced, rests-advanced}
use Rattle.cola_laws.proofs.Mutations.{fewer-advanced}
use Rattle.cola_laws.proofs.mutation.one_level_advances.Goals as goal

pub returns : goal.returns
returns g c = record {
  works = λ count t j above before after below work paced workable same stepped. works-advanced g.met.K.Ord.total count t j above before after below work paced workable same stepped;
  rests = λ count t j above level below rests. rests-advanced g.K.Ord.cmp count t j above level below rests;
  fewer = λ ahead less t j above before after below h a. fewer-advanced g.K.Ord.cmp ahead less t j above before after below h a;
}
