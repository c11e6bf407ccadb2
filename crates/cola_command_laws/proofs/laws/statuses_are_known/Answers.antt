use Rattle.cola_command_laws.proofs.Known.{served-known}
use Rattle.cola_command_laws.proofs.laws.statuses_are_known.Goals as goal

pub returns : goal.returns
returns g c = served-known g.S.Source g.K.Sink g.D.Device
