use Rattle.cola_handle.proofs.Turned.{parts}
use Rattle.cola_handle.proofs.laws.places_divide.Goals as goal

pub returns : goal.returns
returns c = parts
