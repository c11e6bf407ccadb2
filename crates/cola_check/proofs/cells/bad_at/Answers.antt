use Rattle.cola_check.proofs.Common.{Own}
use Rattle.cola_check.proofs.RunBlocks.{read-goes}
use Rattle.cola_check.proofs.cells.bad_at.Goals as goal

pub returns-in-Ok-clause-goes : goal.returns-in-Ok-clause-goes
returns-in-Ok-clause-goes g c = λ none. read-goes Own c.args.run.now c.read_packed.new.into c.args.index c.in-Ok.ensures.reads c.requires.index
