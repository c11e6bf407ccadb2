use Rattle.cola_laws.proofs.Clocked.{window-end}
use Rattle.cola_laws.proofs.flips.window_ends_finished.Goals as goal

pub returns : goal.returns
returns g c = λ most t j above above_next level below flip even keeps v few room paced kept.
    window-end g.met.K.Ord.total most t j above above_next level below flip even keeps v few room paced kept
