use Rattle.std.proofs.Common.{ℕ, Option, None, ap, Some, refl, ◌∙◌}
use Rattle.std.specs.Prelude.{unwrap_or}
use Rattle.cola_cache.specs.Order.{Holds}
use Rattle.cola_cache.proofs.OrderLemmas.{absent-released, order-placed, below-placed, length-placed, length-touched, blocks-touched, holds-touched, absent-touched}
use Rattle.cola_cache.proofs.IndexLemmas.{index-placed}
use Rattle.cola_cache.proofs.order.Order.touch.Goals as goal

pub place-requires : goal.place-requires
place-requires c = let holds : Holds c.self.inside.slots.entries c.args.frame c.args.block = rw c.self.view_is c.requires in rw holds refl

pub invariant_of-self : goal.invariant_of-self
invariant_of-self c =
    let holds : Holds c.self.inside.slots.entries c.args.frame c.args.block = rw c.self.view_is c.requires in
    rw c.place.ensures (
      order-placed c.args.frame c.args.block c.self.inside.slots.entries c.self.invariant.0 (absent-released c.args.frame c.args.block c.self.inside.slots.entries c.self.invariant.0 holds),
      below-placed c.args.frame c.self.inside.count (Some c.args.block) (Some c.args.block) c.self.inside.slots.entries holds c.self.invariant.1,
      length-placed c.args.frame (Some c.args.block) (Some c.args.block) c.self.inside.slots.entries holds ∙ c.self.invariant.2,
      index-placed c.args.frame (Some c.args.block) c.self.inside.index c.self.inside.index c.self.inside.slots.entries c.self.invariant.3 (c.self.invariant.3 c.args.frame ∙ ap (λ (found : Option (Option ℕ)). unwrap_or found None) holds) (λ other apart. refl),
      c.self.invariant.4,
    )

pub returns : goal.returns
returns c =
    let holds : Holds c.self.inside.slots.entries c.args.frame c.args.block = rw c.self.view_is c.requires in record {
      blocks = rw (c.place.ensures, ← c.self.view_is) (blocks-touched c.args.frame c.args.block c.self.inside.slots.entries c.self.invariant.0 holds);
      count = rw (c.place.ensures, ← c.self.view_is) (length-placed c.args.frame (Some c.args.block) (Some c.args.block) c.self.inside.slots.entries holds);
      as_many = rw (c.place.ensures, ← c.self.view_is) (length-touched c.args.frame c.args.block c.self.inside.slots.entries holds);
      same = λ other held now. rw (← c.self.view_is) (holds-touched c.args.frame c.args.block other held c.self.inside.slots.entries holds (rw c.place.ensures at now));
      stay = λ other absent. rw (← c.self.view_is) (absent-touched c.args.frame c.args.block other c.self.inside.slots.entries c.self.invariant.0 holds (rw c.place.ensures at absent));
    }
