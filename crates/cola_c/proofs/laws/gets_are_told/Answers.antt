use Rattle.cola_c.proofs.Telling.{gets-told}
use Rattle.cola_c.proofs.laws.gets_are_told.Goals as goal

pub returns : goal.returns
returns c = gets-told
