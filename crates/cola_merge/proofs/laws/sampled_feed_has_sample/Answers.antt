use Rattle.cola_merge.proofs.ToldRuns.{sampled_feed}
use Rattle.cola_merge.proofs.laws.sampled_feed_has_sample.Goals as goal

pub returns : goal.returns
returns c = λ held run. sampled_feed held run
