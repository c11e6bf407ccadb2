use Rattle.cola_laws.proofs.Facts.{sampled-run, sampled-nothing}
use Rattle.cola_laws.proofs.builds.builds_sample_one_run.Goals as goal

pub returns : goal.returns
returns g c = record {
  above_bottom = λ t j next below. sampled-run t j next below;
  at_bottom = λ t j. sampled-nothing _ _ t j;
}
