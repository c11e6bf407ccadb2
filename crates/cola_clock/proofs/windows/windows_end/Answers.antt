use Rattle.cola_clock.proofs.Laws.{ends-flips, ends-last, ends-works, not_over-next}
use Rattle.cola_clock.proofs.windows.windows_end.Goals as goal

pub returns-clause-by_flips : goal.returns-clause-by_flips
returns-clause-by_flips c = ends-flips

pub returns-clause-works : goal.returns-clause-works
returns-clause-works c = ends-works

pub returns-clause-last : goal.returns-clause-last
returns-clause-last c = ends-last

pub returns-clause-not_yet : goal.returns-clause-not_yet
returns-clause-not_yet c = not_over-next
