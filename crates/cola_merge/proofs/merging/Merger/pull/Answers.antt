-- What a call that gives a cell says to a caller.
use Rattle.cola_merge.proofs.Pulling.{pulls}
use Rattle.cola_merge.proofs.merging.Merger.pull.Goals as goal

pub returns-clause-pulls : goal.returns-clause-pulls
returns-clause-pulls g c = pulls c.draw.result c.draw.ensures.drawn
