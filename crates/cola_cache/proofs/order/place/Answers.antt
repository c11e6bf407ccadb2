use Rattle.cola_cache.proofs.OrderLemmas.{placed}
use Rattle.cola_cache.proofs.order.place.Goals as goal

pub returns : goal.returns
returns c = placed c.args.slots.now c.put.new.self c.args.frame c.args.held c.put.result c.requires c.put.ensures.succeeds c.put.ensures.entries
