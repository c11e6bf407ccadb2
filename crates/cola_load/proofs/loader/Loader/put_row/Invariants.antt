use Rattle.std.proofs.Common.{}
use Rattle.cola_load.proofs.Rowing.{IsRowed}
use Rattle.cola_load.proofs.loader.Loader.put_row.Given as goal

abbrev pub invariant-loop-height : goal.invariant-loop-height
invariant-loop-height g l =
    IsRowed g.D.Device.bytes g.D.Device.counts g.D.Device.kept l.fn.self l.self l.fn.device l.device (record { key = l.key; value = l.value; stamp = l.stamp }) l.height l.index
