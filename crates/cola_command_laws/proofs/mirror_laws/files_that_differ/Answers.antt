use Rattle.cola_command_laws.proofs.Mirroring.{differing}
use Rattle.cola_command_laws.proofs.mirror_laws.files_that_differ.Goals as goal

pub returns : goal.returns
returns g c = λ cache steps steps' cost source source' sink sink' device device' second second'. differing g.S.Source g.K.Sink g.D.Device cache cost source source' sink sink' device device' second second' steps steps'
