use Rattle.cola_run.proofs.LoadLoop.{LoadedBelow}
use Rattle.cola_run.proofs.saving.load_shadows.Given as goal

abbrev pub invariant-loop-level : goal.invariant-loop-level
invariant-loop-level g x = LoadedBelow g.D.Device.bytes g.D.Device.counts g.D.Device.kept x.geometry x.header x.fn.buffers x.buffers x.fn.shadows x.shadows x.fn.tails x.tails x.level
