use Rattle.cola_clock.proofs.Counts.{window_length-counts}
use Rattle.cola_clock.proofs.windows.windows_have_length.Goals as goal

pub returns : goal.returns
returns c = window_length-counts
