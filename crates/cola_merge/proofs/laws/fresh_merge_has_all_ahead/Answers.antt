use Rattle.cola_merge.proofs.Ahead.{ahead-fresh}
use Rattle.cola_merge.proofs.laws.fresh_merge_has_all_ahead.Goals as goal

pub returns : goal.returns
returns c = λ held aim. ahead-fresh held aim
