-- What the work of a level says.
use Rattle.cola_level.proofs.Turns.{works_of}
use Rattle.cola_level.proofs.level.Level.work.Goals as goal

pub returns-clause-kept : goal.returns-clause-kept
returns-clause-kept g c = c.build-result.ensures.kept

pub returns-clause-works : goal.returns-clause-works
returns-clause-works g c =
    works_of c.args.aim.now c.args.self.now c.shadow_len-self.result c.build-result.new.merger (g.W.CellSource.state c.args.work.now) (g.W.CellSource.state c.build-result.new.work) c.args.steps.now c.build-result.new.steps
    c.build-result.result c.build-result.ensures.built c.shadow_len-self.ensures.value c.shadow_len-self.ensures.within
