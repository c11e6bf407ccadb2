use Rattle.std.proofs.Common.{arith}
use Rattle.cola_log.proofs.Passing.{passed_none, passed_more, passed_all, passed_less}
use Rattle.cola_log.proofs.writing.LogSum.pass.Goals as goal

pub loop-sum-init : goal.loop-sum-init
loop-sum-init c = passed_none _ _ (λ k. let small = c.type_inv.bytes k in omega arith)

pub loop-sum-preserved : goal.loop-sum-preserved
loop-sum-preserved c = passed_more _ _ _ _ _ c.loop-sum.invariant c.in-Some.ensures.some

pub loop-sum-smaller : goal.loop-sum-smaller
loop-sum-smaller c = passed_less _ _ _ _ _ c.in-Some.ensures.some

pub returns : goal.returns
returns c = passed_all _ _ _ _ c.loop-sum.invariant (c.next_record.ensures.none c.in_default.is)
