use Rattle.cola_spec.specs.Bounds.{get_bound}
use Rattle.cola_gen.specs.Commands.{gets}
use Rattle.cola_gen.specs.Turns.{HasCounted}
use Rattle.cola_gen.specs.Answered.{at}
use Rattle.cola_gen.proofs.Counting.{SoFar}
use Rattle.cola_gen.proofs.verifying.verify.Given as goal

abbrev pub invariant-loop-place : goal.invariant-loop-place
invariant-loop-place g l = record {
  so_far : SoFar g.T.Table gets (get_bound (g.T.Table.terms l.fn.table).depth) l.levels l.place (at l.fn.table l.fn.tally l.fn.steps) (at l.table l.tally l.steps);
  counts : HasCounted l.place l.tally;
}
