use Rattle.cola_laws.proofs.Lengths.{visible-length-of}
use Rattle.cola_laws.proofs.Facts.{finished-length}
use Rattle.cola_laws.proofs.builds.runs_fit_their_slots.Goals as goal

pub returns : goal.returns
returns g c = record {
  visible = λ most t j level below v room. visible-length-of g.K.Ord.cmp most t j level below v room;
  finished = λ most t j above level below v kept fin room. finished-length g.K.Ord.cmp most t j above level below v kept fin room;
}
