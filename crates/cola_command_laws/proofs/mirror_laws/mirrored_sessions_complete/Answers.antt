use Rattle.cola_command_laws.proofs.Mirroring.{completes}
use Rattle.cola_command_laws.proofs.mirror_laws.mirrored_sessions_complete.Goals as goal

pub returns : goal.returns
returns g c = λ cache status steps steps' cost m source source' sink sink' device device' second second'. completes g.S.Source g.K.Sink g.D.Device cache cost source source' sink sink' device device' second second' steps steps' g.met.D.Device.told m status
