use Rattle.std.proofs.Common.{◌-◌, sym, ◌∙◌, arith, true≢false}
use Rattle.cola_check.proofs.LeastKeys.{away-above}
use Rattle.cola_check.proofs.leasts.first_with.Goals as goal

pub returns-then-not-is_key : goal.returns-then-not-is_key
returns-then-not-is_key c = λ levels are least.
    away-above c.args.key.now c.args.leasts.now levels are least c.loop-first.first (c.loop-first.first - 1) c.index-leasts-first.result (omega (arith, c.loop-first-test.true)) (omega (arith, c.loop-first-test.true, c.loop-first.invariant)) c.index-leasts-first.is
    (λ e. true≢false (sym (c.is_key.ensures.1 e) ∙ c.if-not-is_key.true))
