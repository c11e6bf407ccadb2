use Rattle.cola_clock.proofs.Laws.{window-keeps_above, window-keeps_below, window-keeps_self, window-next, window_step-first, window_step-next}
use Rattle.cola_clock.proofs.windows.window_goes_on.Goals as goal

pub returns-clause-above : goal.returns-clause-above
returns-clause-above c = window-keeps_above

pub returns-clause-itself : goal.returns-clause-itself
returns-clause-itself c = window-keeps_self

pub returns-clause-below : goal.returns-clause-below
returns-clause-below c = window-keeps_below

pub returns-clause-works_next : goal.returns-clause-works_next
returns-clause-works_next c = window-next

pub returns-clause-step_next : goal.returns-clause-step_next
returns-clause-step_next c = window_step-next

pub returns-clause-first : goal.returns-clause-first
returns-clause-first c = window_step-first
