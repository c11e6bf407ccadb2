use Rattle.std.proofs.Common.{add-one, ◌≡◌, ℕ, ◌<◌, Option, None, sym, ◌∙◌, ap, subst, arith, nat_eq}
use Rattle.std.proofs.lemmas.List.{length-replicate}
use Rattle.lru.specs.LruCache.{LruCache, lru_cache, put_entries}
use Rattle.cola_cache.specs.Order.{Frames, unheld}
use Rattle.cola_cache.specs.Index.{Blocks, IsIndexOf}
use Rattle.cola_cache.proofs.OrderLemmas.{order-unheld, below-unheld, length-unheld, put-unheld}
use Rattle.cola_cache.proofs.IndexLemmas.{index-unheld}
use Rattle.cola_cache.proofs.order.Order.new.Goals as goal

pub loop-frame-preserved : goal.loop-frame-preserved
loop-frame-preserved c =
    let room : c.loop-frame.frame < c.loop-frame.slots.cap = omega (arith, c.loop-frame.invariant.1, c.loop-frame-test.true) in
    let cap = ap (λ (s : LruCache ℕ (Option ℕ)). s.cap) c.in_ok-put.ensures.entries in (
      ap (λ (s : LruCache ℕ (Option ℕ)). s.entries) c.in_ok-put.ensures.entries
          ∙ (ap (λ (es : Frames). put_entries nat_eq (lru_cache es c.loop-frame.slots.cap) c.loop-frame.frame None) c.loop-frame.invariant.0
          ∙ (put-unheld c.loop-frame.frame c.loop-frame.slots.cap room ∙ sym (ap unheld (add-one c.loop-frame.frame)))),
      omega (arith, cap, c.loop-frame.invariant.1),
    )

pub invariant_of-result : goal.invariant_of-result
invariant_of-result c =
    let end : c.loop-frame.frame ≡ c.args.count = omega (arith, c.loop-frame-test.false, c.loop-frame.auto.frame-end) in
    rw (c.loop-frame.invariant.0, end) (
      order-unheld c.args.count,
      below-unheld c.args.count c.args.count (omega arith),
      length-unheld c.args.count,
      subst (λ (blocks : Blocks). IsIndexOf blocks (unheld c.args.count)) (sym c.in_ok-index.ensures) (index-unheld c.args.count),
      rw c.in_ok-index.ensures (length-replicate {A = Option ℕ} c.args.count None),
    )
