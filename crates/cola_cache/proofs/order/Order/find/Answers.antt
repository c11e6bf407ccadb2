use Rattle.cola_cache.proofs.IndexLemmas.{found-holds, found-one, missing-absent}
use Rattle.cola_cache.proofs.order.Order.find.Goals as goal

pub returns : goal.returns
returns c = record {
  some = rw (← c.self.view_is) (found-holds c.args.block c.find.result c.self.inside.index c.self.inside.slots.entries c.self.inside.count c.self.invariant.3 c.self.invariant.1 c.self.invariant.2 c.find.ensures.some);
  one = rw (← c.self.view_is) (found-one c.args.block c.find.result c.self.inside.index c.self.inside.slots.entries c.self.invariant.0 c.self.invariant.3 c.find.ensures.some);
  none = λ none. rw (← c.self.view_is) (missing-absent c.args.block c.self.inside.index c.self.inside.slots.entries c.self.invariant.0 c.self.invariant.3 (c.find.ensures.none none));
}
