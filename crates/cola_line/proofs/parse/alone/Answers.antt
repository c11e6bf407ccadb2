use Rattle.cola_line.specs.Spoken.{spoken}
use Rattle.cola_line.proofs.Splits.{alone_not}
use Rattle.cola_line.proofs.parse.alone.Goals as goal

pub returns-in-Some-clause-means : goal.returns-in-Some-clause-means
returns-in-Some-clause-means c = rw c.in-Some.is (alone_not (spoken c.args.command) c.in-Some.field-0.now)
