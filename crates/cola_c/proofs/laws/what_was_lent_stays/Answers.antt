use Rattle.cola_c.proofs.Staying.{lent_stays}
use Rattle.cola_c.proofs.laws.what_was_lent_stays.Goals as goal

pub returns : goal.returns
returns c = lent_stays
