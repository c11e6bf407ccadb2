use Rattle.std.proofs.Common.{length}
use Rattle.cola_replay.proofs.Replaying.{Progress}
use Rattle.cola_replay.proofs.making.replay_records.Given as goal

abbrev pub invariant-loop-call : goal.invariant-loop-call
invariant-loop-call g l = Progress g.D.Device l.fn.kv l.kv l.fn.sum.sum l.bytes l.sum.sum l.rest l.done

abbrev pub decreases-loop-call : goal.decreases-loop-call
decreases-loop-call g l = length l.rest
