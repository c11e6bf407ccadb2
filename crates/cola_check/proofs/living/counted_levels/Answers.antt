use Rattle.cola_check.proofs.Levels.{length_push}
use Rattle.cola_check.proofs.LiveTests.{counted-next}
use Rattle.cola_check.proofs.living.counted_levels.Goals as goal

pub loop-level-preserved : goal.loop-level-preserved
loop-level-preserved c =
    let i = c.loop-level.invariant in
    record {
      listed = counted-next c.args.header.now c.loop-level.level c.loop-level.levels.items c.push.new.self.items c.counted_level.result c.counted_level.ensures c.push.ensures.items i.listed;
      size = length_push c.loop-level.levels.items c.push.new.self.items c.counted_level.result c.loop-level.level c.push.ensures.items i.size;
    }
