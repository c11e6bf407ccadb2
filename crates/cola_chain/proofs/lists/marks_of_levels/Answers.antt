use Rattle.cola_chain.proofs.LevelLists.{pushed-length, marks-push}
use Rattle.cola_chain.proofs.lists.marks_of_levels.Goals as goal

pub loop-level-preserved : goal.loop-level-preserved
loop-level-preserved c = record {
  built = marks-push c.args.levels.now c.loop-level.marks.items c.push.new.self.items c.marks.result c.loop-level.level-index c.level-item.result c.loop-level-test.true c.level-item.is c.push.ensures.items c.marks.ensures
      c.loop-level.invariant.built;
  size = pushed-length c.loop-level.marks.items c.push.new.self.items c.marks.result c.loop-level.level-index c.push.ensures.items c.loop-level.invariant.size;
}
