use Rattle.cola_mirror.proofs.SoundLemmas.{first-calm, second-calm}
use Rattle.cola_mirror.proofs.laws.calm_side_is_in_use.Goals as goal

pub returns-clause-first : goal.returns-clause-first
returns-clause-first g c = λ pair sound calm. first-calm g.D.Device g.E.Device pair sound calm

pub returns-clause-second : goal.returns-clause-second
returns-clause-second g c = λ pair sound calm. second-calm g.D.Device g.E.Device pair sound calm
