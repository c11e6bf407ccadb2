use Rattle.cola_image.proofs.StandingLemmas.{one-map}
use Rattle.cola_image.proofs.laws.one_map_of_a_file.Goals as goal

pub returns : goal.returns
returns c = one-map
