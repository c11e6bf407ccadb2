use Rattle.cola_runs.proofs.Searches.{stops_at_place}
use Rattle.cola_runs.proofs.searching.stop_at_place.Goals as goal

pub returns : goal.returns
returns g c = λ run q start a b. stops_at_place g.K.Ord.cmp q start run a b
