-- The level is the number's where the loop ends.
use Rattle.std.proofs.Common.{◌≡◌, ◌+◌, ◌*◌, ◌%◌, ◌^◌, ◌<◌, ◌≤◌, arith}
use Rattle.cola_check.proofs.Common.{one_shl}
use Rattle.cola_check.proofs.Judging.{not-behind, not-before}
use Rattle.cola_check.proofs.checking.level_of.Goals as goal

pub returns-else-number-level : goal.returns-else-number-level
returns-else-number-level c = λ l s i shallow slot within e.
    let up : c.loop-level.level ≤ l = not-behind c.args.number c.loop-level.level l s i e slot within c.loop-level.invariant.reached in
    let is : (1 * 2 ^ (c.loop-level.level + 4)) % 2 ^ 64 ≡ 2 ^ (c.loop-level.level + 4) = one_shl (c.loop-level.level + 4) 64 (omega (arith, c.loop-level.invariant.level_in)) in
    let below : c.args.number < 2 ^ (c.loop-level.level + 4) = omega (arith, is, c.if-number-level.false) in
    let low : l ≤ c.loop-level.level = not-before c.args.number c.loop-level.level l s i e slot below in
    omega (arith, up, low)

pub returns-after-loop-level : goal.returns-after-loop-level
returns-after-loop-level c = λ l s i shallow slot within e.
    let up : c.loop-level.level ≤ l = not-behind c.args.number c.loop-level.level l s i e slot within c.loop-level.invariant.reached in
    omega (arith, up, shallow, c.loop-level-test.false)
