use Rattle.cola_cell.proofs.ToldRuns.{told_is, run_told, run_same}
use Rattle.cola_cell.proofs.told_laws.told_run_is_its_cells.Goals as goal

pub returns : goal.returns
returns c = record {
  is = λ held run t. told_is held run t;
  told = λ held run cells h. run_told held run cells h;
  same = λ held run cells h. run_same held run cells h;
}
