use Rattle.std.proofs.lemmas.Option.{IfSome_then}
use Rattle.cola_cache.proofs.OrderLemmas.{holds-absent}
use Rattle.cola_cache.proofs.cached.Cached.find.Goals as goal

pub returns-clause-some : goal.returns-clause-some
returns-clause-some g c = rw (← c.self.view_is) (IfSome_then c.find.result c.find.ensures.some (λ frame here absent. holds-absent c.args.block frame c.self.inside.order absent here.0))
