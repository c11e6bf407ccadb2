use Rattle.cola_command_laws.proofs.Completing.{transfers-few}
use Rattle.cola_command_laws.proofs.serving_laws.file_sessions_transfer_few.Goals as goal

pub returns : goal.returns
returns g c = λ cache steps steps' cost m source source' sink sink' device device'. transfers-few g.S.Source g.K.Sink g.D.Device cache cost m source source' sink sink' device device' steps steps'
