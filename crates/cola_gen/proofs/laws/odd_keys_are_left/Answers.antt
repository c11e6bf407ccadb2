use Rattle.cola_gen.proofs.Left.{has_odd}
use Rattle.cola_gen.proofs.laws.odd_keys_are_left.Goals as goal

pub returns : goal.returns
returns c = λ shape number small room. has_odd shape number small room
