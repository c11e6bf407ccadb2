-- The visible run above some levels.
use Rattle.std.proofs.Common.{◌≡◌, ℕ, suc, ◌-◌, take, slice_index_or, subst, arith}
use Rattle.cola_mutation.specs.Levels.{last_visible}
use Rattle.cola_mutation.proofs.Turning.{last_there}
use Rattle.cola_mutation.proofs.working.above_behind.Goals as goal

pub returns-else-count-eq0 : goal.returns-else-count-eq0
returns-else-count-eq0 c =
    let n = c.if-count-eq0.false in
    let some : suc (c.args.count - 1) ≡ c.args.count = omega (arith, n) in
    subst (λ (x : ℕ). (slice_index_or c.args.levels.now (c.args.count - 1) c.index-levels-count.result).visible ≡ last_visible c.args.above (take x c.args.levels.now)) some
    (last_there c.args.above (c.args.count - 1) c.args.levels.now c.index-levels-count.result (let h = c.requires in omega (arith, n, h)))
