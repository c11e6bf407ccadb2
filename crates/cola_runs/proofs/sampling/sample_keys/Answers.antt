use Rattle.cola_runs.proofs.Samples.{eighths_rise}
use Rattle.cola_runs.proofs.sampling.sample_keys.Goals as goal

pub returns : goal.returns
returns g c = λ run h. eighths_rise g.met.K.Ord.total 7 run h
