use Rattle.std.proofs.Common.{nat_eq, refl, sym, subst}
use Rattle.std.specs.Map.{lookup}
use Rattle.cola_cache.specs.Order.{Holds}
use Rattle.cola_cache.proofs.OrderLemmas.{blocks-free, free-is}
use Rattle.cola_cache.proofs.order.Order.release.Goals as goal

pub returns-in-Some-clause-gone : goal.returns-in-Some-clause-gone
returns-in-Some-clause-gone c = λ other held now.
    let before = c.empty.ensures.same other held now in
    (before.0, λ same. before.1 (let here = subst (λ number. Holds c.args.self.now number held) same before.0 in cc (here, c.in-Some.ensures.some)))

pub returns-in-None : goal.returns-in-None
returns-in-None c = record {
  count = refl;
  gone = λ other held now. (now, λ same. c.in-None.ensures.none refl held (subst (λ number. Holds c.args.self.now number held) same now));
  blocks = sym (blocks-free c.args.frame c.args.self.now (c.in-None.ensures.none refl));
  free = λ there. free-is (lookup (nat_eq c.args.frame) c.args.self.now) there (c.in-None.ensures.none refl);
}
