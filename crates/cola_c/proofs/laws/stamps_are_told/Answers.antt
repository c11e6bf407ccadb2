use Rattle.cola_c.proofs.Telling.{stamps-told}
use Rattle.cola_c.proofs.laws.stamps_are_told.Goals as goal

pub returns : goal.returns
returns c = stamps-told
