use Rattle.std.proofs.Common.{ℕ, Result, refl, subst}
use Rattle.cola_kv.specs.declared.error.Error.{Error}
use Rattle.cola_replay.specs.Replays.{ReplaysRecords}
use Rattle.cola_replay.proofs.Replaying.{replays_all}
use Rattle.cola_replay.proofs.making.replay.Goals as goal

pub returns : goal.returns
returns g c =
    let records =
    subst (λ (r : Result (ℕ × ℕ) Error). ReplaysRecords g.D.Device c.args.kv.now c.replay_records.new.kv c.begin-sum.result.sum c.replay_records.new.sum.sum c.in-Some.records.now r)
    c.in_ok-size.was c.replay_records.ensures in
    replays_all g.D.Device c.args.kv.now c.replay_records.new.kv c.args.page.now c.args.log.now c.begin-sum.result.sum c.in-Some.records.now c.replay_records.new.sum.sum
    (c.in_ok-size.size, c.in_ok-size.done) _ c.begin-sum.ensures c.in-Some.ensures.some records refl refl refl
