use Rattle.cola_runs.proofs.Builds.{merge_answers}
use Rattle.cola_runs.proofs.weaving.merge_answer.Goals as goal

pub returns : goal.returns
returns g c = λ own incoming keys q h. merge_answers g.met.K.Ord.total own incoming keys h q
