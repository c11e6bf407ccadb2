use Rattle.std.proofs.Common.{◌≢◌, ◌≤◌, ℕ, refl, ◌∙◌, arith}
use Rattle.cola_cache.specs.Order.{Holds}
use Rattle.cola_cache.proofs.order.Order.give_up_all.Goals as goal

pub loop-frame-init : goal.loop-frame-init
loop-frame-init c = record { count = refl; done = λ other held now. omega arith }

pub loop-frame-preserved : goal.loop-frame-preserved
loop-frame-preserved c = record {
  count = c.release.ensures.count ∙ c.loop-frame.invariant.count;
  done = λ other held now.
      let before = c.release.ensures.gone other held now in
      let less : c.loop-frame.frame ≤ other = c.loop-frame.invariant.done other held before.0 in
      let differ : other ≢ c.loop-frame.frame = before.1 in
      omega (arith, differ, less);
}

pub returns : goal.returns
returns c =
    let none : (other held : ℕ) → Holds c.loop-frame.self other held → ⊥ = λ other held now. omega (arith, c.loop-frame.invariant.done other held now, c.count.ensures.below other held now, c.count-frame-end.ensures.is, c.loop-frame.invariant.count, c.loop-frame-test.false, c.loop-frame.auto.frame-end) in record {
      blocks = c.count.ensures.none none;
      count = c.loop-frame.invariant.count;
      none = none;
    }
