use Rattle.cola_spec.specs.Bounds.{levels_of}
use Rattle.cola_spec.proofs.BoundLaws.{levels_at_least, levels_hold, levels_are_least}
use Rattle.cola_layout.proofs.Powers.{levels-are}
use Rattle.cola_image.proofs.laws.levels_are_counted.Goals as goal

pub returns : goal.returns
returns c = λ keys bottom is. levels-are keys (levels_of keys) bottom (levels_at_least keys) (levels_hold keys) (levels_are_least keys) is
