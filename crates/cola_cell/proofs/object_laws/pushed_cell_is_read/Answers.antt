use Rattle.cola_cell.proofs.RunLemmas.{pushed_is_read}
use Rattle.cola_cell.proofs.object_laws.pushed_cell_is_read.Goals as goal

pub returns : goal.returns
returns c = λ old new level cell earlier later buffer found p t stays r. pushed_is_read old new level cell tt earlier later buffer found p t stays r
