use Rattle.cola_pairs.proofs.LivePairs.{live_from}
use Rattle.cola_pairs.proofs.living.live_from_places.Goals as goal

pub returns : goal.returns
returns g c = λ lo hi runs h. live_from g.met.K.Ord.total lo hi runs h
