use Rattle.cola_command_laws.proofs.ModesSaid.{rebuilt, rebuild-done}
use Rattle.cola_command_laws.proofs.mode_laws.rebuilds_are_told.Goals as goal

pub returns-clause-answers : goal.returns-clause-answers
returns-clause-answers g c = λ status device device' second second' ends. rebuilt g.D.Device device device' second second' status ends.answer ends.status_is ends.rebuilds

pub returns-clause-only : goal.returns-clause-only
returns-clause-only g c = λ status device device' second second' ends. ends.only_copied

pub returns-clause-complete : goal.returns-clause-complete
returns-clause-complete g c = λ status device device' second second' ends can. rebuild-done status ends.answer ends.status_is (ends.complete can)
