use Rattle.std.proofs.Common.{◌≡◌, ℕ, suc, ◌-◌, ◌<◌, length, refl, sym, ap, arith}
use Rattle.cola_check.proofs.Common.{drop_all, visible_said, shadow_said}
use Rattle.cola_check.proofs.LiveKeys.{none_counted, next_has_room, first_stay, visible_next, shadow_next, counted_next}
use Rattle.cola_check.proofs.tally.add_live.Goals as goal

pub loop-left-init : goal.loop-left-init
loop-left-init c =
    let levels = c.args.levels.now in
    let end = drop_all (length levels) levels (omega arith) in
    record {
      within = omega arith;
      visible = sym (ap visible_said end);
      shadow = sym (ap shadow_said end);
      first = refl;
      counted = none_counted c.args.counts.now levels (length levels) (let e = c.requires.same in omega (arith, e));
    }

pub with-requires : goal.with-requires
with-requires c =
    let i = c.loop-left.invariant in
    let n = c.loop-left.left in
    let some = c.loop-left-test.true in
    let within = i.within in
    let same = c.requires.same in
    let size = c.loop-left.auto.counts in
    next_has_room c.loop-left.counts c.args.counts.now c.args.levels.now n (n - 1) (omega (arith, some)) i.first (omega (arith, some, within, same, size)) (omega (arith, some, within, same)) c.requires.rooms

pub loop-left-preserved : goal.loop-left-preserved
loop-left-preserved c =
    let i = c.loop-left.invariant in
    let n = c.loop-left.left in
    let m : ℕ = n - 1 in
    let counts = c.loop-left.counts in
    let olds = c.args.counts.now in
    let levels = c.args.levels.now in
    let level = c.index-levels-left.result in
    let some = c.loop-left-test.true in
    let within = i.within in
    let many : n ≡ suc m = omega (arith, some) in
    let in_counts : m < length counts = omega (arith, some, within, c.requires.same, c.loop-left.auto.counts) in
    let in_olds : m < length olds = omega (arith, some, within, c.requires.same) in
    let in_levels : m < length levels = omega (arith, some, within) in
    let is = c.index-levels-left.is in
    let visible = visible_next counts olds levels n m many i.first in_counts in_olds level in_levels is c.loop-left.answers.visible c.loop-left.answers.shadow i.visible i.shadow c.under-answers.ensures.visible in
    let shadow = shadow_next counts olds levels n m many i.first in_counts in_olds level in_levels is c.loop-left.answers.visible c.loop-left.answers.shadow i.visible i.shadow c.under-answers.ensures.shadow in
    record {
      within = omega (arith, within);
      visible = visible;
      shadow = shadow;
      first = first_stay counts olds levels n m many i.first in_counts in_olds c.with.result;
      counted = counted_next counts olds levels n m many i.first in_counts in_olds level in_levels is c.with.result c.under-answers.result.visible c.under-answers.result.shadow i.counted visible shadow c.with.ensures.visible c.with.ensures.shadow;
    }
