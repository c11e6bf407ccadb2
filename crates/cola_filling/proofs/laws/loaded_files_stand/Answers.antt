use Rattle.cola_filling.proofs.Whole.{ends-standing, completes}
use Rattle.cola_filling.proofs.laws.loaded_files_stand.Goals as goal

pub returns-clause-stands : goal.returns-clause-stands
returns-clause-stands g c = λ keys block_exp format source source' sink sink' device device' bytes ends telling.
    ends-standing g.S.Source g.K.Sink g.D.Device keys block_exp format source source' sink sink' device device' ends.geometry ends.is bytes telling ends.ends

pub returns-clause-complete : goal.returns-clause-complete
returns-clause-complete g c = λ keys block_exp status format source source' sink sink' device device' ends can.
    completes g.S.Source g.K.Sink g.D.Device keys block_exp format source source' sink sink' device device' ends.geometry ends.is status can ends.ends
