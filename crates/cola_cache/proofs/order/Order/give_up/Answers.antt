use Rattle.std.proofs.Common.{refl, sym, subst}
use Rattle.cola_cache.specs.Order.{Holds, blocks_of}
use Rattle.cola_cache.proofs.OrderLemmas.{without-absent, holds-absent}
use Rattle.cola_cache.proofs.order.Order.give_up.Goals as goal

pub returns-in-None : goal.returns-in-None
returns-in-None c = record {
  blocks = sym (without-absent c.args.block (blocks_of c.args.self.now) (c.in-None.ensures.none refl));
  count = refl;
  same = λ other held now. (now, λ same. holds-absent c.args.block other c.args.self.now (c.in-None.ensures.none refl) (subst (λ b. Holds c.args.self.now other b) same now));
}
