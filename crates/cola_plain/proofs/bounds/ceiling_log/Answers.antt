use Rattle.std.proofs.Common.{ℕ, ◌≡◌, ◌<◌, ◌^◌, arith, subst}
use Rattle.cola_plain.proofs.BoundLemmas.{least_power, reached_fits}
use Rattle.cola_plain.proofs.bounds.ceiling_log.Goals as goal

pub returns-then-number-reached : goal.returns-then-number-reached
returns-then-number-reached c =
    least_power c.args.number c.loop-power.power (reached_fits c.loop-power.power c.loop-power.reached c.args.number c.loop-power.invariant.is (omega arith)) c.loop-power.invariant.above

pub returns : goal.returns
returns c =
    let last : c.loop-power.power ≡ 64 = omega arith in
    least_power c.args.number 64 (omega arith) (subst (λ power. (before : ℕ) → before < power → 2 ^ before < c.args.number) last c.loop-power.invariant.above)
