use Rattle.cola_merge.proofs.ToldRuns.{fresh_begun}
use Rattle.cola_merge.proofs.laws.fresh_merge_has_not_begun.Goals as goal

pub returns : goal.returns
returns c = λ held aim e. fresh_begun held aim e
