use Rattle.cola_runs.proofs.Samples.{sample_length, sample_at}
use Rattle.cola_runs.proofs.sampling.sample_cells.Goals as goal

pub returns : goal.returns
returns g c = record { length = sample_length; at = λ run i. sample_at i run }
