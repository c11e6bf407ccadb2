use Rattle.cola_c.proofs.ToldBack.{prevs-told}
use Rattle.cola_c.proofs.laws_of_walks.prevs_are_told.Goals as goal

pub returns : goal.returns
returns c = prevs-told
