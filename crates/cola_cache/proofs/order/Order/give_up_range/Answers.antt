use Rattle.std.proofs.Common.{false, ◌≡◌, ◌+◌, refl, sym, ◌∙◌, ap, subst, arith}
use Rattle.cola_cache.specs.Order.{Holds, blocks_of, is_within, without}
use Rattle.cola_cache.proofs.OrderLemmas.{outside-more, outside-none, within-none, within-more}
use Rattle.cola_cache.proofs.order.Order.give_up_range.Goals as goal

pub loop-block-init : goal.loop-block-init
loop-block-init c = record {
  above = omega arith;
  blocks = sym (outside-none c.args.first (blocks_of c.args.self.now));
  count = refl;
  same = λ other held now. (now, within-none c.args.first held);
}

pub loop-block-preserved : goal.loop-block-preserved
loop-block-preserved c = record {
  above = omega (arith, c.loop-block.invariant.above);
  blocks = c.give_up.ensures.blocks ∙ (ap (without c.loop-block.block) c.loop-block.invariant.blocks ∙ outside-more c.args.first c.loop-block.block (blocks_of c.args.self.now) c.loop-block.invariant.above);
  count = c.give_up.ensures.count ∙ c.loop-block.invariant.count;
  same = λ other held now.
      let before = c.give_up.ensures.same other held now in
      let start = c.loop-block.invariant.same other held before.0 in
      (start.0, within-more c.args.first c.loop-block.block held start.1 before.1);
}

pub returns-clause-same : goal.returns-clause-same
returns-clause-same c = λ other held now.
    let end : c.loop-block.block ≡ c.args.first + c.args.count = omega (arith, c.loop-block.invariant.above, c.loop-block-test.false, c.loop-block.auto.block-end) in
    subst (λ n. Holds c.args.self.now other held × (is_within c.args.first n held ≡ false)) end (c.loop-block.invariant.same other held now)
