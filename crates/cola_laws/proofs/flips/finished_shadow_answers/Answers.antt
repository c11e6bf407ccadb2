use Rattle.cola_laws.proofs.Facts.{finished-answers}
use Rattle.cola_laws.proofs.flips.finished_shadow_answers.Goals as goal

pub returns : goal.returns
returns g c = λ most t j above level below fin kept q settled. finished-answers g.K.Ord.cmp most t j above level below fin kept q settled
