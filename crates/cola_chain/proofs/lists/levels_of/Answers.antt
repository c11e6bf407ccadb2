use Rattle.cola_chain.proofs.LevelLists.{pushed-length, levels-push}
use Rattle.cola_chain.proofs.lists.levels_of.Goals as goal

pub loop-level_marks-preserved : goal.loop-level_marks-preserved
loop-level_marks-preserved c = record {
  built = levels-push c.args.marks.now c.loop-level_marks.levels.items c.push.new.self.items c.of.result c.loop-level_marks.level_marks-index _ c.loop-level_marks-test.true c.push.ensures.items c.of.ensures c.loop-level_marks.invariant.built;
  size = pushed-length c.loop-level_marks.levels.items c.push.new.self.items c.of.result c.loop-level_marks.level_marks-index c.push.ensures.items c.loop-level_marks.invariant.size;
}
