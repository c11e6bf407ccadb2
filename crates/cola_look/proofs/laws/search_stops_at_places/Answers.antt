use Rattle.cola_look.proofs.RunLists.{stops_at_places}
use Rattle.cola_look.proofs.laws.search_stops_at_places.Goals as goal

pub returns : goal.returns
returns g c = λ q start run runs h a b. stops_at_places g.met.K.Ord.total q start run runs h a b
