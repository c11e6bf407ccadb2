use Rattle.cola_cell.proofs.RunLemmas.{push_adds_cell}
use Rattle.cola_cell.proofs.object_laws.push_adds_a_cell.Goals as goal

pub returns : goal.returns
returns c = λ old new level cell cells p t h. push_adds_cell old new level cell tt cells p t h
