use Rattle.cola_look.proofs.RunLists.{one_run}
use Rattle.cola_look.proofs.laws.run_is_one.Goals as goal

pub returns : goal.returns
returns c = λ held run cells others h k. one_run held run cells others h k
