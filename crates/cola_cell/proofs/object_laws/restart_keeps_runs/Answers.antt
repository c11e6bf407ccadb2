use Rattle.cola_cell.proofs.RunLemmas.{restart_keeps_run}
use Rattle.cola_cell.proofs.object_laws.restart_keeps_runs.Goals as goal

pub returns : goal.returns
returns c = λ old new level slot run cells r d h. restart_keeps_run old new level slot run cells r d h
