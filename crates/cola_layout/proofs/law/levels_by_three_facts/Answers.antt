use Rattle.cola_layout.proofs.Powers.{levels-are}
use Rattle.cola_layout.proofs.law.levels_by_three_facts.Goals as goal

pub returns : goal.returns
returns c = levels-are
