use Rattle.std.proofs.Common.{◌≡◌, ◌≢◌, ⊎_elim, Some, None, subst, sym, arith, ◌∙◌}
use Rattle.std.proofs.lemmas.Bool.{cases_eq}
use Rattle.cola_cache.specs.Blocks.{last_in}
use Rattle.cola_cache.specs.Cache.{used}
use Rattle.cola_cache.proofs.ChainLemmas.{listed-inside}
use Rattle.cola_cache.proofs.BlocksLemmas.{shared-fewer, shared-after}
use Rattle.cola_cache.proofs.buffers.copy_late.Goals as goal

pub copy_one-requires-clause-shared : goal.copy_one-requires-clause-shared
copy_one-requires-clause-shared g c = shared-fewer c.args.device.now.held c.args.lasts.now c.args.shares.now c.loop-buffer.shares c.loop-buffer.invariant.fewer c.requires.shared

pub loop-buffer-preserved : goal.loop-buffer-preserved
loop-buffer-preserved g c = record {
  copies = c.copy_one.ensures.copies;
  fewer = λ other none. c.copy_one.ensures.others other (c.loop-buffer.invariant.fewer other none);
  done = λ other less is. ⊎_elim
      (λ (same : other ≡ c.loop-buffer.buffer). subst (λ b. last_in c.copy_one.new.shares b ≡ None) (sym same) (c.copy_one.ensures.here (subst (λ b. last_in c.args.lasts.now b ≡ Some c.in-Some.leaving) same is)))
      (λ (differ : other ≢ c.loop-buffer.buffer). c.copy_one.ensures.others other (c.loop-buffer.invariant.done other (omega (arith, less, differ)) is))
      (cases_eq other c.loop-buffer.buffer);
}

pub returns-after-loop-buffer-clause-after : goal.returns-after-loop-buffer-clause-after
returns-after-loop-buffer-clause-after g c =
    shared-after c.args.device.now.held (used c.args.device.now.blocks c.args.block c.args.device.now.held) c.args.lasts.now c.loop-buffer.shares c.leaving.result c.leaving.ensures
    (λ other block same is. c.loop-buffer.invariant.done other (omega (arith, listed-inside c.args.lasts.now other block is, c.loop-buffer-test.false, c.loop-buffer.auto.buffer-end)) (is ∙ (sym same ∙ c.in-Some.is)))
    (shared-fewer c.args.device.now.held c.args.lasts.now c.args.shares.now c.loop-buffer.shares c.loop-buffer.invariant.fewer c.requires.shared)

pub returns-in_default-clause-after : goal.returns-in_default-clause-after
returns-in_default-clause-after g c = λ buffer block is borrowed absent. c.requires.shared buffer block is borrowed (c.leaving.ensures block (λ same. absurd (cc)) absent)
