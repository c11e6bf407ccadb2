use Rattle.cola_runs.proofs.Woven.{seen_weave}
use Rattle.cola_runs.proofs.weaving.weave_at_key.Goals as goal

pub returns : goal.returns
returns g c = λ part own incoming keys q h. seen_weave g.met.K.Ord.total part own incoming keys h q
