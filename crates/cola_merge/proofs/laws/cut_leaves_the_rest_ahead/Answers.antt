use Rattle.cola_merge.proofs.Ahead.{cut_is_ahead}
use Rattle.cola_merge.proofs.laws.cut_leaves_the_rest_ahead.Goals as goal

pub returns : goal.returns
returns c = λ held aim m done t h. cut_is_ahead held aim m done t h
