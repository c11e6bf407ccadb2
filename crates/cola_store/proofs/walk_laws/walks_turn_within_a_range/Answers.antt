use Rattle.cola_store.proofs.Walking.{walk-turns}
use Rattle.cola_store.proofs.walk_laws.walks_turn_within_a_range.Goals as goal

pub returns : goal.returns
returns g c = λ old mid new low high walk last begins goes. walk-turns g.D.Device.bytes g.D.Device.counts old mid new walk last begins.turns goes
