use Rattle.std.proofs.Common.{arith}
use Rattle.cola_cache.proofs.BlocksLemmas.{few-blocks}
use Rattle.cola_cache.proofs.buffers.Buffers.reads.Goals as goal

pub returns-clause-few : goal.returns-clause-few
returns-clause-few g c = rw (← c.self.view_is) (λ room none last.
    let since = c.self.invariant.1.since in
    let few = since.few room none last in
    omega (arith, few, few-blocks c.self.inside.many c.self.inside.device.held since.held_are))
