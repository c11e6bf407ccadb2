use Rattle.cola_pairs.proofs.LivePairs.{live_entries}
use Rattle.cola_pairs.proofs.living.live_of_entries.Goals as goal

pub returns : goal.returns
returns g c = λ within runs entries same h finds. live_entries g.met.K.Ord.total within runs same entries h finds
