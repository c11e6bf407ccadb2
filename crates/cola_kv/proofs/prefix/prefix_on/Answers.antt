use Rattle.cola_kv.proofs.Prefixed.{begins-below, begins-onward}
use Rattle.cola_kv.proofs.prefix.prefix_on.Goals as goal

pub returns-in-Some : goal.returns-in-Some
returns-in-Some g c =
    begins-below g.D.Device c.args.kv.now c.range_on.new.kv c.args.prefix.now c.first_from-low.result.now c.bytes.result.now c.in-Some.end c.range_on.result
    c.range_on.ensures c.first_from-low.ensures c.bytes.ensures.value c.in-Some.ensures

pub returns-in-None : goal.returns-in-None
returns-in-None g c =
    begins-onward g.D.Device c.args.kv.now c.range_on-in-None.new.kv c.args.prefix.now c.first_from-low.result.now c.range_on-in-None.result
    c.range_on-in-None.ensures c.first_from-low.ensures c.in-None.ensures
