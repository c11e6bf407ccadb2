use Rattle.cola_gen.proofs.Scattered.{keys_apart}
use Rattle.cola_gen.proofs.laws.keys_differ.Goals as goal

pub returns : goal.returns
returns c = keys_apart
