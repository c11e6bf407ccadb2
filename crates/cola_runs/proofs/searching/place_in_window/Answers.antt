use Rattle.cola_runs.proofs.Searches.{place_in_window}
use Rattle.cola_runs.proofs.searching.place_in_window.Goals as goal

pub returns : goal.returns
returns g c = record {
  above = λ upper lower q h i e. (place_in_window g.met.K.Ord.total q upper lower h i e).0;
  below = λ upper lower q h i e. (place_in_window g.met.K.Ord.total q upper lower h i e).1;
}
