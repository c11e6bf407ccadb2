use Rattle.std.proofs.lemmas.List.{take-replicate}
use Rattle.cola_cell.proofs.spelling.zeros.Goals as goal

pub returns : goal.returns
returns c = take-replicate c.args.n 72 0 c.requires
