use Rattle.cola_run.proofs.LoadLoop.{SavedBelow}
use Rattle.cola_run.proofs.saving.save_tails.Given as goal

abbrev pub invariant-loop-level : goal.invariant-loop-level
invariant-loop-level g x = SavedBelow g.D.Device.bytes g.D.Device.counts g.D.Device.kept x.geometry x.fn.buffers x.buffers x.fn.shadows x.shadows x.tails x.level
