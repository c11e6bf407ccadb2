use Rattle.std.proofs.Common.{Ok, Err}
use Rattle.cola_replay.proofs.Remaking.{delete_remade, as_failed}
use Rattle.cola_replay.proofs.making.delete.Goals as goal

pub returns-in-Ok : goal.returns-in-Ok
returns-in-Ok g c = delete_remade g.D.Device _ _ c.args.key.now (Ok _) c.in-Ok.ensures

pub returns-in-Err : goal.returns-in-Err
returns-in-Err g c = as_failed g.D.Device _ _ _ _ _ c.failed_by.ensures (delete_remade g.D.Device _ _ c.args.key.now (Err _) c.in-Err.ensures)
