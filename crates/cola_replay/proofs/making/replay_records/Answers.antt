use Rattle.std.proofs.Common.{arith, sym}
use Rattle.cola_log.proofs.Passing.{passed_less}
use Rattle.cola_replay.proofs.Remaking.{as_failed}
use Rattle.cola_replay.proofs.Replaying.{progress_none, progress_more, progress_all, progress_failed}
use Rattle.cola_replay.proofs.making.replay_records.Goals as goal

pub loop-call-init : goal.loop-call-init
loop-call-init g c = progress_none g.D.Device c.args.kv.now c.args.sum.now.sum c.args.bytes.now (λ k. let small = c.type_inv.bytes k in omega arith)

pub loop-call-preserved : goal.loop-call-preserved
loop-call-preserved g c =
    progress_more g.D.Device _ _ _ _ _ _ _ _ _ c.loop-call.invariant c.in-Some.ensures.some (as_failed g.D.Device _ _ _ _ _ (sym c.in_default-make.is) c.make.ensures)

pub loop-call-smaller : goal.loop-call-smaller
loop-call-smaller g c = passed_less _ _ _ _ _ c.in-Some.ensures.some

pub returns-in-Some-make : goal.returns-in-Some-make
returns-in-Some-make g c = progress_failed g.D.Device _ _ _ _ _ _ _ _ _ _ c.loop-call.invariant c.in-Some-make.ensures

pub returns : goal.returns
returns g c = progress_all g.D.Device _ _ _ _ _ _ _ c.loop-call.invariant (c.next_record.ensures.none c.in_default.is)
