use Rattle.std.proofs.Common.{}
use Rattle.cola_load.proofs.Saving.{IsSaving}
use Rattle.cola_load.proofs.loader.Loader.write_tails.Given as goal

abbrev pub invariant-loop-level : goal.invariant-loop-level
invariant-loop-level g l = IsSaving g.D.Device.bytes g.D.Device.counts g.D.Device.kept l.self l.fn.device l.device l.level
