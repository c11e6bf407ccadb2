use Rattle.std.proofs.Common.{arith}
use Rattle.cola_plain.proofs.BoundLemmas.{doubled_fits}
use Rattle.cola_plain.proofs.bounds.power_of_two.Goals as goal

pub overflow_mul-reached : goal.overflow_mul-reached
overflow_mul-reached c = omega (arith, doubled_fits c.loop.counter c.loop.reached c.loop.invariant (omega arith))
