use Rattle.std.proofs.Common.{Option, length-set, ◌≡◌, ◌∷◌, ℕ, List, nat_eq, Some, None, refl, ◌∙◌, ap, arith}
use Rattle.std.specs.Prelude.{unwrap_or}
use Rattle.std.specs.Map.{lookup}
use Rattle.cola_cache.specs.Order.{IsAbsent, blocks_of}
use Rattle.cola_cache.proofs.OrderLemmas.{others, absent-others, below-lookup, below-placed, length-placed, order-placed, holds-placed, holds-front, blocks-free, free-holds}
use Rattle.cola_cache.proofs.IndexLemmas.{index-held}
use Rattle.cola_cache.proofs.order.Order.hold.Goals as goal

pub place-requires : goal.place-requires
place-requires c = let free : lookup (nat_eq c.args.frame) c.self.inside.slots.entries ≡ Some None = rw c.self.view_is c.requires.free in rw free refl

pub insert-requires : goal.insert-requires
insert-requires c =
    let free : lookup (nat_eq c.args.frame) c.self.inside.slots.entries ≡ Some None = rw c.self.view_is c.requires.free in record {
      inside = omega (arith, below-lookup c.args.frame c.self.inside.count None c.self.inside.slots.entries c.self.invariant.1 free, c.self.invariant.4);
      free = c.self.invariant.3 c.args.frame ∙ ap (λ (found : Option (Option ℕ)). unwrap_or found None) free;
    }

pub invariant_of-self : goal.invariant_of-self
invariant_of-self c =
    let free : lookup (nat_eq c.args.frame) c.self.inside.slots.entries ≡ Some None = rw c.self.view_is c.requires.free in
    let absent : IsAbsent c.args.block (blocks_of c.self.inside.slots.entries) = rw c.self.view_is c.requires.absent in
    rw c.place.ensures (
      order-placed c.args.frame c.args.block c.self.inside.slots.entries c.self.invariant.0 (absent-others c.args.frame c.args.block c.self.inside.slots.entries absent),
      below-placed c.args.frame c.self.inside.count None (Some c.args.block) c.self.inside.slots.entries free c.self.invariant.1,
      length-placed c.args.frame None (Some c.args.block) c.self.inside.slots.entries free ∙ c.self.invariant.2,
      index-held c.args.frame (Some c.args.block) c.self.inside.index c.insert.new.self c.self.inside.slots.entries c.self.invariant.3 (omega (arith, below-lookup c.args.frame c.self.inside.count None c.self.inside.slots.entries c.self.invariant.1 free, c.self.invariant.4)) c.insert.ensures,
      rw (c.insert.ensures, length-set) c.self.invariant.4,
    )

pub returns : goal.returns
returns c =
    let free : lookup (nat_eq c.args.frame) c.self.inside.slots.entries ≡ Some None = rw c.self.view_is c.requires.free in record {
      blocks = rw (c.place.ensures, ← c.self.view_is) (ap (λ (blocks : List ℕ). c.args.block ∷ blocks) (blocks-free c.args.frame c.self.inside.slots.entries (free-holds c.args.frame c.self.inside.slots.entries free)));
      count = rw (c.place.ensures, ← c.self.view_is) (length-placed c.args.frame None (Some c.args.block) c.self.inside.slots.entries free);
      here = λ held now. let front : Some c.args.block ≡ Some held = holds-front c.args.frame held (Some c.args.block) (others c.args.frame c.self.inside.slots.entries) (rw c.place.ensures at now) in (cc);
      same = λ other held now apart. rw (← c.self.view_is) (holds-placed c.args.frame other held (Some c.args.block) c.self.inside.slots.entries (rw c.place.ensures at now) apart);
    }
