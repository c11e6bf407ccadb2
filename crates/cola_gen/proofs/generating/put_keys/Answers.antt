use Rattle.std.proofs.Common.{arith}
use Rattle.std.proofs.lemmas.Result.{err_from_is_err_and}
use Rattle.cola_spec.specs.Bounds.{put_bound}
use Rattle.cola_table.specs.Replies.{put_refused}
use Rattle.cola_gen.specs.Commands.{puts}
use Rattle.cola_gen.specs.Answered.{at}
use Rattle.cola_gen.proofs.Counting.{goes_on, counts_on, stops}
use Rattle.cola_gen.proofs.generating.put_keys.Goals as goal

pub returns-in_err-put_key-clause-ran : goal.returns-in_err-put_key-clause-ran
returns-in_err-put_key-clause-ran g c =
    let p = err_from_is_err_and c.from_residual.result c.from_residual.ensures.1 in rw (p.1, p.2) (
    stops g.T.Table puts put_bound c.args.levels c.loop-place.place c.args.number (put_refused c.in_err-put_key.field-0.0) (at c.args.table.now c.args.tally.now c.args.steps.now) (at c.loop-place.table c.loop-place.tally c.loop-place.steps) (at c.put_key.new.table c.put_key.new.tally c.put_key.new.steps)
    (omega arith) c.loop-place.invariant.so_far c.in_err-put_key.ensures.call
    )

pub loop-place-preserved : goal.loop-place-preserved
loop-place-preserved g c = record {
  so_far = goes_on g.T.Table puts put_bound c.args.levels c.loop-place.place (at c.args.table.now c.args.tally.now c.args.steps.now) (at c.loop-place.table c.loop-place.tally c.loop-place.steps) (at c.put_key.new.table c.put_key.new.tally c.put_key.new.steps)
      c.loop-place.invariant.so_far c.in_ok-put_key.ensures.call;
  counts = counts_on g.T.Table puts put_bound c.args.levels c.loop-place.place c.loop-place.place (at c.loop-place.table c.loop-place.tally c.loop-place.steps) (at c.put_key.new.table c.put_key.new.tally c.put_key.new.steps)
      _ c.in_ok-put_key.ensures.call c.loop-place.invariant.counts;
}
