use Rattle.std.proofs.Common.{Ok, Err}
use Rattle.cola_replay.proofs.Remaking.{put_if_remade, as_failed}
use Rattle.cola_replay.proofs.making.put_if.Goals as goal

pub returns-in-Ok : goal.returns-in-Ok
returns-in-Ok g c = put_if_remade g.D.Device _ _ c.args.key.now c.args.seen c.args.value.now (Ok _) c.in-Ok.ensures

pub returns-in-Err : goal.returns-in-Err
returns-in-Err g c = as_failed g.D.Device _ _ _ _ _ c.failed_by.ensures (put_if_remade g.D.Device _ _ c.args.key.now c.args.seen c.args.value.now (Err _) c.in-Err.ensures)
