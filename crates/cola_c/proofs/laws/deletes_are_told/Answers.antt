use Rattle.cola_c.proofs.Telling.{deletes-told}
use Rattle.cola_c.proofs.laws.deletes_are_told.Goals as goal

pub returns : goal.returns
returns c = deletes-told
