use Rattle.cola_clock.proofs.Laws.{adjacent-rest}
use Rattle.cola_clock.proofs.windows.adjacent_levels_rest.Goals as goal

pub returns : goal.returns
returns c = adjacent-rest
