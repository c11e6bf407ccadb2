use Rattle.std.proofs.Common.{length}
use Rattle.cola_log.proofs.Passing.{Passed}
use Rattle.cola_log.proofs.writing.LogSum.pass.Given as goal

abbrev pub invariant-loop-sum : goal.invariant-loop-sum
invariant-loop-sum l = Passed l.fn.self.sum l.bytes l.self.sum l.rest

abbrev pub decreases-loop-sum : goal.decreases-loop-sum
decreases-loop-sum l = length l.rest
