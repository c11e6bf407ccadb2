use Rattle.std.proofs.Common.{[], Option, refl, sym, subst}
use Rattle.cola_check.proofs.Common.{Cell, IsLast}
use Rattle.cola_check.proofs.Prefixes.{order-empty, sample-empty}
use Rattle.cola_check.proofs.prefix.Prefix.empty.Goals as goal

pub returns-clause-seen : goal.returns-clause-seen
returns-clause-seen c = λ lists. record {
  place_is = refl;
  looks_is = refl;
  young_is = refl;
  last_is = subst (λ (l : Option Cell). IsLast [] l) (sym c.empty.ensures) refl;
  order_is = order-empty;
  sampled_is = (λ _. sample-empty lists, λ _. refl);
}
