use Rattle.cola_cell.proofs.RunLemmas.{finish_keeps_run}
use Rattle.cola_cell.proofs.object_laws.finish_keeps_runs.Goals as goal

pub returns : goal.returns
returns c = λ old new level result run cells f d h. finish_keeps_run old new level result run cells f d h
