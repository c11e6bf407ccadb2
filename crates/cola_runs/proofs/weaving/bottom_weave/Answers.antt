use Rattle.std.proofs.Common.{[]}
use Rattle.cola_runs.proofs.Builds.{bottom_values, bottom_answers}
use Rattle.cola_runs.proofs.weaving.bottom_weave.Goals as goal

pub returns : goal.returns
returns g c = record {
  values = λ own incoming. bottom_values g.K.Ord.cmp own incoming;
  answers = λ own incoming q h. bottom_answers g.met.K.Ord.total own incoming [] h q;
}
