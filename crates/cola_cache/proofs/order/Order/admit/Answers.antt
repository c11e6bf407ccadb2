use Rattle.std.proofs.Common.{◌<◌, ◌∷◌, ℕ, List, nat_eq, length, refl, sym, ◌∙◌, ap, subst, arith}
use Rattle.std.specs.Prelude.{IsSome}
use Rattle.std.specs.Map.{lookup}
use Rattle.cola_cache.specs.Order.{IsAbsent, blocks_of}
use Rattle.cola_cache.proofs.OrderLemmas.{absent-others, last-is, evicted, blocks-admitted, below-lookup}
use Rattle.cola_cache.proofs.order.Order.admit.Goals as goal

pub hold-requires : goal.hold-requires
hold-requires c =
    let last = last-is c.self.inside.slots.entries c.last_of-last.result c.last_of-last.ensures in
    let there : IsSome (lookup (nat_eq c.last_of-last.result) c.self.inside.slots.entries) = rw ((evicted c.last_of-last.result last.0 c.self.inside.slots.entries c.self.invariant.0 last.1).0) refl in record {
      free = c.release.ensures.free (rw (← c.self.view_is) there);
      absent = subst (λ (blocks : List ℕ). IsAbsent c.args.block blocks) (sym c.release.ensures.blocks) (absent-others c.last_of-last.result c.args.block c.args.self.now c.requires.absent);
    }

pub returns : goal.returns
returns c =
    let last = last-is c.self.inside.slots.entries c.last_of-last.result c.last_of-last.ensures in
    let there = (evicted c.last_of-last.result last.0 c.self.inside.slots.entries c.self.invariant.0 last.1).0 in
    let less : c.last_of-last.result < c.self.inside.count = below-lookup c.last_of-last.result c.self.inside.count last.0 c.self.inside.slots.entries c.self.invariant.1 there in
    let absent : IsAbsent c.args.block (blocks_of c.self.inside.slots.entries) = rw c.self.view_is c.requires.absent in
    let some : 0 < length c.self.inside.slots.entries = rw c.self.view_is c.requires.some in record {
      blocks = c.hold.ensures.blocks ∙ (ap (λ (blocks : List ℕ). c.args.block ∷ blocks) c.release.ensures.blocks
          ∙ rw (← c.self.view_is) (blocks-admitted c.last_of-last.result c.args.block last.0 c.self.inside.slots.entries c.self.invariant.0 absent last.1 some));
      count = c.hold.ensures.count ∙ c.release.ensures.count;
      below = rw (← c.self.view_is) (omega (arith, c.self.invariant.2, less));
      here = c.hold.ensures.here;
      same = λ other held now apart. (c.release.ensures.gone other held (c.hold.ensures.same other held now apart)).0;
    }
