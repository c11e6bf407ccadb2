use Rattle.std.proofs.Common.{length}
use Rattle.cola_cache.specs.Cache.{used}
use Rattle.cola_cache.specs.Order.{IsAbsent, blocks_of}
use Rattle.cola_cache.proofs.cached.Cached.leaving.Goals as goal

pub returns : goal.returns
returns g c = λ other differ now.
    let absent : IsAbsent c.args.block (blocks_of c.self.inside.order) = rw (← c.self.view_is) at c.requires in
    let after : IsAbsent other (used (length c.self.inside.order) c.args.block (blocks_of c.self.inside.order)) = rw (← c.self.view_is) at now in
    rw (← c.self.view_is) (c.leaving.ensures c.args.block other absent differ after)
