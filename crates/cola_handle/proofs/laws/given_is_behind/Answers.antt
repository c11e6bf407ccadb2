use Rattle.cola_handle.proofs.Turned.{given-behind}
use Rattle.cola_handle.proofs.laws.given_is_behind.Goals as goal

pub returns : goal.returns
returns c = given-behind
