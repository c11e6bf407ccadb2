use Rattle.cola_laws.proofs.InSlots.{held-marks}
use Rattle.cola_laws.proofs.slots.levels_have_their_marks.Goals as goal

pub returns : goal.returns
returns g c = λ cells t j marks h. held-marks cells t j marks h
