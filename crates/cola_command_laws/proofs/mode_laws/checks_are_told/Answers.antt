use Rattle.cola_command_laws.proofs.ModesSaid.{checked}
use Rattle.cola_command_laws.proofs.mode_laws.checks_are_told.Goals as goal

pub returns : goal.returns
returns g c = λ steps steps' status device device' sink sink' ends. checked g.K.Sink g.D.Device device device' sink sink' steps steps' status ends
