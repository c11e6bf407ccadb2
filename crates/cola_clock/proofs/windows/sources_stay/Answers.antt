use Rattle.cola_clock.proofs.Laws.{sources-stay}
use Rattle.cola_clock.proofs.windows.sources_stay.Goals as goal

pub returns : goal.returns
returns c = sources-stay
