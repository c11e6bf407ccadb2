-- The levels behind the one that works.
use Rattle.cola_level.proofs.Sources.{levels_stay}
use Rattle.cola_level.proofs.laws.other_runs_stay.Goals as goal

pub returns-clause-levels : goal.returns-clause-levels
returns-clause-levels c = λ old new level t j below grows h. levels_stay old new level grows t j below h
