use Rattle.cola_command_laws.proofs.Checking.{sound, broken, complete}
use Rattle.cola_command_laws.proofs.check_laws.checked_files_are_judged.Goals as goal

pub returns-clause-sound : goal.returns-clause-sound
returns-clause-sound g c = λ device device' sink sink' steps steps' bytes. sound g.K.Sink g.D.Device device device' sink sink' steps steps' bytes

pub returns-clause-broken : goal.returns-clause-broken
returns-clause-broken g c = λ device device' sink sink' steps steps' bytes m. broken g.K.Sink g.D.Device device device' sink sink' steps steps' bytes m

pub returns-clause-complete : goal.returns-clause-complete
returns-clause-complete g c = λ device device' sink sink' steps steps' status bytes m. complete g.K.Sink g.D.Device device device' sink sink' steps steps' status bytes m
