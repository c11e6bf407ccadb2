use Rattle.cola_merge.proofs.ToldRuns.{grown_keeps}
use Rattle.cola_merge.proofs.laws.growing_keeps_runs.Goals as goal

pub returns : goal.returns
returns c = λ old new level run cells g d h. grown_keeps old new level run cells g d h
