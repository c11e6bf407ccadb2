use Rattle.cola_command_laws.proofs.Completing.{completes}
use Rattle.cola_command_laws.proofs.serving_laws.file_sessions_complete.Goals as goal

pub returns : goal.returns
returns g c = λ cache status steps steps' cost m source source' sink sink' device device'. completes g.S.Source g.K.Sink g.D.Device cache cost m source source' sink sink' device device' steps steps' status
