use Rattle.cola_opening.proofs.Sizes.{sizes-double}
use Rattle.cola_opening.proofs.laws.sizes_of_files.Goals as goal

pub returns-clause-doubles : goal.returns-clause-doubles
returns-clause-doubles c = sizes-double
