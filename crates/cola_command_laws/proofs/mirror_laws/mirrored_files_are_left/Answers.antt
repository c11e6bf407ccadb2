use Rattle.cola_command_laws.proofs.Mirroring.{both, only-second, only-first}
use Rattle.cola_command_laws.proofs.mirror_laws.mirrored_files_are_left.Goals as goal

pub returns-clause-both : goal.returns-clause-both
returns-clause-both g c = λ cache steps steps' cost source source' sink sink' device device' second second'. both g.S.Source g.K.Sink g.D.Device cache cost source source' sink sink' device device' second second' steps steps'

pub returns-clause-second : goal.returns-clause-second
returns-clause-second g c = λ cache steps steps' cost source source' sink sink' device device' second second'. only-second g.S.Source g.K.Sink g.D.Device cache cost source source' sink sink' device device' second second' steps steps'

pub returns-clause-first : goal.returns-clause-first
returns-clause-first g c = λ cache steps steps' cost source source' sink sink' device device' second second'. only-first g.S.Source g.K.Sink g.D.Device cache cost source source' sink sink' device device' second second' steps steps'
