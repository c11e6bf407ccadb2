use Rattle.cola_image.proofs.StandingLemmas.{stand-alike}
use Rattle.cola_image.proofs.laws.levels_stand_by_their_cells.Goals as goal

pub returns : goal.returns
returns c = stand-alike
