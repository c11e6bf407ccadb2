use Rattle.cola_clock.proofs.Laws.{ends-highest, ends-none, ends-only, ends-over}
use Rattle.cola_clock.proofs.windows.one_window_ends.Goals as goal

pub returns-clause-ends_below : goal.returns-clause-ends_below
returns-clause-ends_below c = ends-highest

pub returns-clause-no_other : goal.returns-clause-no_other
returns-clause-no_other c = ends-only

pub returns-clause-none_at_bottom : goal.returns-clause-none_at_bottom
returns-clause-none_at_bottom c = ends-none

pub returns-clause-then_over : goal.returns-clause-then_over
returns-clause-then_over c = ends-over
