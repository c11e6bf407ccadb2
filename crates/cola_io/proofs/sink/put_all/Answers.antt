use Rattle.std.proofs.Common.{arith, refl, ◌∙◌}
use Rattle.cola_io.proofs.StreamLemmas.{Appended-none, Appended-front}
use Rattle.cola_io.proofs.sink.put_all.Goals as goal

pub loop-done-init : goal.loop-done-init
loop-done-init g c = record { within = omega arith; appended = Appended-none _; faults = refl }

pub loop-done-preserved : goal.loop-done-preserved
loop-done-preserved g c = record {
  within = omega (arith, c.in_ok-count.ensures.bound);
  appended = Appended-front _ _ _ _ _ _ c.loop-done.invariant.appended c.in_ok-count.ensures.bytes;
  faults = c.in_ok-count.ensures.faults_counted ∙ c.loop-done.invariant.faults;
}
