use Rattle.std.proofs.Common.{refl}
use Rattle.cola_spec.proofs.BoundLaws.{ceiling_log_fits, ceiling_log_is_least, levels_at_least, levels_hold, levels_are_least}
use Rattle.cola_spec.proofs.laws.bounds.Goals as goal

pub returns-clause-fits : goal.returns-clause-fits
returns-clause-fits c = ceiling_log_fits

pub returns-clause-least : goal.returns-clause-least
returns-clause-least c = ceiling_log_is_least

pub returns-clause-at_least : goal.returns-clause-at_least
returns-clause-at_least c = levels_at_least

pub returns-clause-room : goal.returns-clause-room
returns-clause-room c = levels_hold

pub returns-clause-fewest : goal.returns-clause-fewest
returns-clause-fewest c = levels_are_least

pub returns-clause-at_1 : goal.returns-clause-at_1
returns-clause-at_1 c = (refl, refl, refl)

pub returns-clause-at_32 : goal.returns-clause-at_32
returns-clause-at_32 c = (refl, refl, refl)

pub returns-clause-at_33 : goal.returns-clause-at_33
returns-clause-at_33 c = (refl, refl, refl)

pub returns-clause-at_1000 : goal.returns-clause-at_1000
returns-clause-at_1000 c = (refl, refl, refl)

pub returns-clause-at_65536 : goal.returns-clause-at_65536
returns-clause-at_65536 c = (refl, refl, refl)
