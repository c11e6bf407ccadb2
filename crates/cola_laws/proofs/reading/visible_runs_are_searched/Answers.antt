use Rattle.std.proofs.Common.{◌∷◌}
use Rattle.cola_laws.specs.Chain.{visibles}
use Rattle.cola_laws.proofs.Facts.{visible-sampled}
use Rattle.cola_laws.proofs.reading.visible_runs_are_searched.Goals as goal

pub returns : goal.returns
returns g c = λ most ahead t map top below s. visible-sampled g.K.Ord.cmp most t 0 (visibles (top ∷ below)) s.visible
