use Rattle.std.proofs.Common.{◌+◌}
use Rattle.cola_spec.specs.Bounds.{put_bound}
use Rattle.cola_gen.specs.Commands.{deletes}
use Rattle.cola_gen.specs.Turns.{HasCounted}
use Rattle.cola_gen.specs.Answered.{at}
use Rattle.cola_gen.proofs.Counting.{SoFar}
use Rattle.cola_gen.proofs.generating.delete_keys.Given as goal

abbrev pub invariant-loop-half : goal.invariant-loop-half
invariant-loop-half g l = record {
  so_far : SoFar g.T.Table deletes (put_bound (g.T.Table.terms l.fn.table).depth) l.levels l.half (at l.fn.table l.fn.tally l.fn.steps) (at l.table l.tally l.steps);
  counts : HasCounted (l.number + l.half) l.tally;
}
