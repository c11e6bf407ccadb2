use Rattle.cola_clock.proofs.Wrap.{schedule-wrap}
use Rattle.cola_clock.proofs.windows.clock_wraps.Goals as goal

pub returns : goal.returns
returns c = schedule-wrap
