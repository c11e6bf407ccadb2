use Rattle.cola_image.proofs.StandingLemmas.{empty-stands}
use Rattle.cola_image.proofs.laws.empty_file_stands.Goals as goal

pub returns : goal.returns
returns c = empty-stands
