use Rattle.cola_runs.proofs.Searches.{hit_at_place}
use Rattle.cola_runs.proofs.searching.seat_of_key.Goals as goal

pub returns : goal.returns
returns g c = λ run q h. hit_at_place g.met.K.Ord.total q run h
