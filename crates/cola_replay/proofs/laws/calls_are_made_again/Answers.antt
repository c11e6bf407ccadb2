use Rattle.cola_replay.proofs.Ending.{are_made_again}
use Rattle.cola_replay.proofs.laws.calls_are_made_again.Goals as goal

pub returns : goal.returns
returns g c = are_made_again g.D.Device
