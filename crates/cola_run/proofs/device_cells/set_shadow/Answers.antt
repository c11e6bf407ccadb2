use Rattle.std.proofs.Common.{}
use Rattle.cola_run.proofs.Standing.{one-set}
use Rattle.cola_run.proofs.device_cells.set_shadow.Goals as goal

pub returns : goal.returns
returns c = one-set c.args.shadows.now c.args.level c.args.shadow c.requires
