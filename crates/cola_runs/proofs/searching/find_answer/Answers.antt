use Rattle.std.proofs.Common.{◌∷◌, arith}
use Rattle.cola_runs.proofs.Searches.{finds_answer, place_in}
use Rattle.cola_runs.proofs.searching.find_answer.Goals as goal

pub returns : goal.returns
returns g c = record {
  begun = λ run runs q start h a b. finds_answer g.met.K.Ord.total q start (run ∷ runs) h (a, b);
  small = λ run runs q h e. finds_answer g.met.K.Ord.total q 0 (run ∷ runs) h (let f = place_in g.K.Ord.cmp q run in (omega arith, omega arith));
}
