use Rattle.cola_clock.proofs.Sampled.{bottom-samples, sampled-bottom, sampled-not_over, sampled-over}
use Rattle.cola_clock.proofs.windows.sampled_shadow_is_finished.Goals as goal

pub returns-clause-over : goal.returns-clause-over
returns-clause-over c = sampled-over

pub returns-clause-not_over : goal.returns-clause-not_over
returns-clause-not_over c = sampled-not_over

pub returns-clause-at_bottom : goal.returns-clause-at_bottom
returns-clause-at_bottom c = sampled-bottom

pub returns-clause-above_bottom : goal.returns-clause-above_bottom
returns-clause-above_bottom c = bottom-samples
