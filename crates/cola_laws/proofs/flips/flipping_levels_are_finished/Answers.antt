use Rattle.cola_laws.proofs.Facts.{flipping-finished}
use Rattle.cola_laws.proofs.flips.flipping_levels_are_finished.Goals as goal

pub returns : goal.returns
returns g c = λ most t j above below kept. flipping-finished g.K.Ord.cmp most t j above below kept
