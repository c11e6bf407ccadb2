use Rattle.cola_load.proofs.FilledLevels.{filled-stands, filled-levels}
use Rattle.cola_load.proofs.filled_laws.filled_files_stand.Goals as goal

pub returns : goal.returns
returns c = record { stands = filled-stands; levels = λ geometry last rows bytes cells. filled-levels geometry rows bytes cells }
