use Rattle.cola_chain.proofs.LevelLists.{pushed-length, runs-push}
use Rattle.cola_chain.proofs.lists.runs_of.Goals as goal

pub loop-number-preserved : goal.loop-number-preserved
loop-number-preserved c = record {
  built = runs-push c.args.clock c.args.levels.now c.loop-number.runs.items c.push.new.self.items c.run_of.result c.loop-number.number c.index-levels-number.result c.loop-number-test.true c.index-levels-number.is c.push.ensures.items c.run_of.ensures
      c.loop-number.invariant.built;
  size = pushed-length c.loop-number.runs.items c.push.new.self.items c.run_of.result c.loop-number.number c.push.ensures.items c.loop-number.invariant.size;
}
