use Rattle.cola_clock.proofs.Laws.{elapsed-next_flip, elapsed-next_stay, elapsed_below, elapsed_is, flips-elapsed}
use Rattle.cola_clock.proofs.windows.places_in_periods.Goals as goal

pub returns-clause-remainder : goal.returns-clause-remainder
returns-clause-remainder c = elapsed_is

pub returns-clause-below : goal.returns-clause-below
returns-clause-below c = elapsed_below

pub returns-clause-last : goal.returns-clause-last
returns-clause-last c = flips-elapsed

pub returns-clause-after_flip : goal.returns-clause-after_flip
returns-clause-after_flip c = elapsed-next_flip

pub returns-clause-after_others : goal.returns-clause-after_others
returns-clause-after_others c = elapsed-next_stay
