use Rattle.cola_cell.proofs.RunLemmas.{run_is_read, run_is_good}
use Rattle.cola_cell.proofs.object_laws.run_is_read.Goals as goal

pub returns : goal.returns
returns c = record {
  cell = λ before now buffer run cells index found default h l r. run_is_read before now buffer run cells index found default h l r;
  good = λ before now buffer run cells index number h l r. run_is_good before now buffer run cells index number h l r;
}
