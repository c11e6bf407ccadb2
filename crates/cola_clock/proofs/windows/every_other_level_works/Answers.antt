use Rattle.cola_clock.proofs.Counts.{working_levels-half}
use Rattle.cola_clock.proofs.windows.every_other_level_works.Goals as goal

pub returns : goal.returns
returns c = working_levels-half
