use Rattle.cola_look.proofs.RunLists.{sampled_rise}
use Rattle.cola_look.proofs.laws.sampled_runs_rise.Goals as goal

pub returns : goal.returns
returns g c = λ runs h. sampled_rise g.K.Ord.cmp runs h
