use Rattle.std.proofs.Common.{Some, arith}
use Rattle.cola_cache.proofs.OrderLemmas.{below-lookup, none-held, length-blocks}
use Rattle.cola_cache.proofs.order.Order.count.Goals as goal

pub returns-clause-below : goal.returns-clause-below
returns-clause-below c = λ frame block holds.
    let below = below-lookup frame c.self.inside.count (Some block) c.self.inside.slots.entries c.self.invariant.1 (rw c.self.view_is holds) in
    rw (← c.self.view_is) (omega (arith, below, c.self.invariant.2))

pub returns-clause-none : goal.returns-clause-none
returns-clause-none c = λ none. rw (← c.self.view_is) (none-held c.self.inside.slots.entries c.self.invariant.0 (λ frame block holds. none frame block (rw (← c.self.view_is) holds)))

pub returns-clause-few : goal.returns-clause-few
returns-clause-few c = length-blocks c.args.self.now
