use Rattle.cola_command_laws.proofs.ModesSaid.{upgraded, upgrade-done}
use Rattle.cola_command_laws.proofs.mode_laws.upgrades_are_told.Goals as goal

pub returns-clause-answers : goal.returns-clause-answers
returns-clause-answers g c = λ status device device' second second' ends. upgraded g.D.Device device device' second second' status ends.answer ends.status_is ends.upgraded

pub returns-clause-complete : goal.returns-clause-complete
returns-clause-complete g c = λ status device device' second second' m ends can. upgrade-done status ends.answer ends.status_is (ends.complete m can)
