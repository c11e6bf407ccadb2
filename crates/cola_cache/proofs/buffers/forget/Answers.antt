use Rattle.std.proofs.Common.{◌<◌, ℕ, Option, None, length, get_or, set, ap, ◌∙◌, arith}
use Rattle.std.proofs.lemmas.List.{get_or_default}
use Rattle.std.proofs.lemmas.List.Edits.{map_over_more}
use Rattle.cola_cache.specs.Blocks.{forgotten}
use Rattle.cola_cache.proofs.buffers.forget.Goals as goal

pub loop-last-preserved : goal.loop-last-preserved
loop-last-preserved c =
    ap (λ (x : Option ℕ). set c.loop-last.lasts c.loop-last.last-index x) c.forget_in.ensures
    ∙ map_over_more (forgotten c.args.block) c.args.lasts.now c.loop-last.lasts c.loop-last.last-index (get_or c.loop-last.lasts c.loop-last.last-index None) c.loop-last-test.true c.loop-last.invariant
    (let within : c.loop-last.last-index < length c.loop-last.lasts = omega (arith, c.loop-last-test.true, c.loop-last.auto.lasts) in get_or_default c.loop-last.lasts c.loop-last.last-index None (get_or c.loop-last.lasts c.loop-last.last-index None) within)
