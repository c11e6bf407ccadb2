use Rattle.std.proofs.Common.{◌≡◌, ℕ, ◌+◌, ◌*◌, ◌/◌, arith, ap, subst, sym, ◌∙◌}
use Rattle.cola_device.specs.Bytes.{part, Gives}
use Rattle.cola_cache.specs.Order.{Holds}
use Rattle.cola_cache.proofs.CacheLemmas.{renewed-more, renewed-all}
use Rattle.cola_cache.proofs.cached.renew.Goals as goal

pub loop-step-preserved : goal.loop-step-preserved
loop-step-preserved c = record {
  room = c.renew_block.ensures.room ∙ c.loop-step.invariant.room;
  agree = λ told now written inside agree frame block holds.
      renewed-more told now (part c.loop-step.copies (frame * c.args.size) c.args.size) (part c.renew_block.new.copies (frame * c.args.size) c.args.size) (c.args.at / c.args.size) c.loop-step.step c.args.size block
      (c.loop-step.invariant.agree told now written inside agree frame block holds)
      (λ is given. subst (λ (b : ℕ). Gives now (b * c.args.size) (part c.renew_block.new.copies (frame * c.args.size) c.args.size)) (sym is)
      (c.renew_block.ensures.here told now frame written inside (subst (λ (b : ℕ). Holds c.args.order.now frame b) is holds)
      (subst (λ (b : ℕ). Gives told (b * c.args.size) (part c.loop-step.copies (frame * c.args.size) c.args.size)) is given)))
      (λ differ. c.renew_block.ensures.others frame block holds differ);
}

pub returns-clause-agree : goal.returns-clause-agree
returns-clause-agree c = λ told now written inside agree frame block holds.
    let last : c.loop-step.step ≡ c.touched_blocks-step-end.result = omega (arith, c.loop-step-test.false, c.loop-step.auto.step-end) in
    renewed-all told now c.args.from.now c.loop-step.copies c.args.size c.args.at (c.args.at / c.args.size + c.loop-step.step) frame block (omega (arith, c.requires.size))
    (ap (λ (n : ℕ). c.args.at / c.args.size + n) (last ∙ c.touched_blocks-step-end.ensures.is)) written inside
    (c.loop-step.invariant.agree told now written inside agree frame block holds)
