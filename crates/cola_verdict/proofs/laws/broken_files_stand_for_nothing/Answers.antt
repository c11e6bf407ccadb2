use Rattle.cola_verdict.proofs.Broken.{broken-stands_not}
use Rattle.cola_verdict.proofs.laws.broken_files_stand_for_nothing.Goals as goal

pub returns : goal.returns
returns c = broken-stands_not
