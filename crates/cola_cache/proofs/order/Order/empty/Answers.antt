use Rattle.std.proofs.Common.{ℕ, Option, ap, arith, length-set, Some, None, refl, ◌∙◌}
use Rattle.std.specs.Prelude.{unwrap_or}
use Rattle.cola_cache.specs.Order.{Frames, Holds}
use Rattle.cola_cache.proofs.OrderLemmas.{others, below-lookup, below-placed, demoted-placed, order-last, order-others, free-removed, below-last, blocks-last, blocks-others, length-others, holds-emptied, length-last, lookup-last}
use Rattle.cola_cache.proofs.IndexLemmas.{index-emptied}
use Rattle.cola_cache.proofs.order.Order.empty.Goals as goal

pub place-requires : goal.place-requires
place-requires c = let holds : Holds c.self.inside.slots.entries c.args.frame c.args.block = rw c.self.view_is c.requires in rw holds refl

pub remove-requires : goal.remove-requires
remove-requires c =
    let holds : Holds c.self.inside.slots.entries c.args.frame c.args.block = rw c.self.view_is c.requires in record {
      inside = omega (arith, below-lookup c.args.frame c.self.inside.count (Some c.args.block) c.self.inside.slots.entries c.self.invariant.1 holds, c.self.invariant.4);
      held = c.self.invariant.3 c.args.frame ∙ ap (λ (found : Option (Option ℕ)). unwrap_or found None) holds;
    }

pub invariant_of-self : goal.invariant_of-self
invariant_of-self c =
    let entries : Frames = c.self.inside.slots.entries in
    let holds : Holds c.self.inside.slots.entries c.args.frame c.args.block = rw c.self.view_is c.requires in
    let below = below-placed c.args.frame c.self.inside.count (Some c.args.block) None c.self.inside.slots.entries holds c.self.invariant.1 in
    rw (c.demote.ensures.entries, c.place.ensures, demoted-placed c.args.frame None (others c.args.frame c.self.inside.slots.entries)) (
      order-last c.args.frame (others c.args.frame c.self.inside.slots.entries) (order-others c.args.frame c.self.inside.slots.entries c.self.invariant.0) (free-removed c.args.frame c.self.inside.slots.entries c.self.invariant.0),
      below-last c.args.frame c.self.inside.count (others c.args.frame c.self.inside.slots.entries) below.1 below.0,
      length-last c.args.frame (others c.args.frame c.self.inside.slots.entries) ∙ (length-others c.args.frame c.self.inside.slots.entries (Some c.args.block) holds ∙ c.self.invariant.2),
      index-emptied c.args.frame c.self.inside.index c.remove.new.self c.self.inside.slots.entries c.self.invariant.0 c.self.invariant.3 (omega (arith, below-lookup c.args.frame c.self.inside.count (Some c.args.block) c.self.inside.slots.entries c.self.invariant.1 holds, c.self.invariant.4)) c.remove.ensures,
      rw (c.remove.ensures, length-set) c.self.invariant.4,
    )

pub returns : goal.returns
returns c =
    let holds : Holds c.self.inside.slots.entries c.args.frame c.args.block = rw c.self.view_is c.requires in record {
      blocks = rw (c.demote.ensures.entries, c.place.ensures, demoted-placed c.args.frame None (others c.args.frame c.self.inside.slots.entries), ← c.self.view_is) (blocks-last c.args.frame (others c.args.frame c.self.inside.slots.entries) ∙ blocks-others c.args.frame c.args.block c.self.inside.slots.entries c.self.invariant.0 holds);
      count = rw (c.demote.ensures.entries, c.place.ensures, demoted-placed c.args.frame None (others c.args.frame c.self.inside.slots.entries), ← c.self.view_is) (length-last c.args.frame (others c.args.frame c.self.inside.slots.entries) ∙ length-others c.args.frame c.self.inside.slots.entries (Some c.args.block) holds);
      same = λ other held now. rw (← c.self.view_is) (holds-emptied c.args.frame c.args.block other held c.self.inside.slots.entries c.self.invariant.0 holds (rw (c.demote.ensures.entries, c.place.ensures, demoted-placed c.args.frame None (others c.args.frame c.self.inside.slots.entries)) at now));
      others = rw (c.demote.ensures.entries, c.place.ensures, demoted-placed c.args.frame None (others c.args.frame c.self.inside.slots.entries), ← c.self.view_is) (blocks-last c.args.frame (others c.args.frame c.self.inside.slots.entries));
      free = rw (c.demote.ensures.entries, c.place.ensures, demoted-placed c.args.frame None (others c.args.frame c.self.inside.slots.entries)) (lookup-last c.args.frame (others c.args.frame c.self.inside.slots.entries) (free-removed c.args.frame c.self.inside.slots.entries c.self.invariant.0));
    }
