use Rattle.cola_cell.proofs.RunLemmas.{push_keeps_run}
use Rattle.cola_cell.proofs.object_laws.push_keeps_runs.Goals as goal

pub returns : goal.returns
returns c = λ old new level cell result run cells p d h. push_keeps_run old new level cell result run cells p d h
