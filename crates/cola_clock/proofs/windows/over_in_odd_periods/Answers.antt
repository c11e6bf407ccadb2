use Rattle.cola_clock.proofs.Laws.{is_over-suc}
use Rattle.cola_clock.proofs.windows.over_in_odd_periods.Goals as goal

pub returns : goal.returns
returns c = is_over-suc
