use Rattle.cola_pairs.proofs.LivePairs.{live_find, live_rises}
use Rattle.cola_pairs.proofs.living.live_at_key.Goals as goal

pub returns : goal.returns
returns g c = record {
  find = λ within runs q ties. live_find g.met.K.Ord.total within runs ties q;
  rise = λ within runs. live_rises g.met.K.Ord.total within runs;
}
