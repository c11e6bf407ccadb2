use Rattle.std.proofs.Common.{◌≡◌, ◌+◌, arith, subst}
use Rattle.std.proofs.lemmas.Result.{err_from_is_err_and}
use Rattle.cola_spec.specs.Bounds.{put_bound}
use Rattle.cola_table.specs.Replies.{put_refused}
use Rattle.cola_gen.specs.Keys.{evens}
use Rattle.cola_gen.specs.Commands.{deletes}
use Rattle.cola_gen.specs.Turns.{HasCounted}
use Rattle.cola_gen.specs.Answered.{at}
use Rattle.cola_gen.proofs.Counting.{goes_on, counts_on, stops}
use Rattle.cola_gen.proofs.generating.delete_keys.Goals as goal

pub returns-in_err-delete_key-clause-ran : goal.returns-in_err-delete_key-clause-ran
returns-in_err-delete_key-clause-ran g c =
    let p = err_from_is_err_and c.from_residual.result c.from_residual.ensures.1 in rw (p.1, p.2) (
    stops g.T.Table deletes put_bound c.args.levels c.loop-half.half (evens c.args.number) (put_refused c.in_err-delete_key.field-0.0) (at c.args.table.now c.args.tally.now c.args.steps.now) (at c.loop-half.table c.loop-half.tally c.loop-half.steps) (at c.delete_key.new.table c.delete_key.new.tally c.delete_key.new.steps)
    (omega arith) c.loop-half.invariant.so_far c.in_err-delete_key.ensures.call
    )

pub loop-half-preserved : goal.loop-half-preserved
loop-half-preserved g c = record {
  so_far = goes_on g.T.Table deletes put_bound c.args.levels c.loop-half.half (at c.args.table.now c.args.tally.now c.args.steps.now) (at c.loop-half.table c.loop-half.tally c.loop-half.steps) (at c.delete_key.new.table c.delete_key.new.tally c.delete_key.new.steps)
      c.loop-half.invariant.so_far c.in_ok-delete_key.ensures.call;
  counts =
      let same : c.args.number + c.loop-half.half + 1 ≡ c.args.number + (c.loop-half.half + 1) = omega arith in
      subst (λ n. HasCounted n c.delete_key.new.tally) same (counts_on g.T.Table deletes put_bound c.args.levels c.loop-half.half (c.args.number + c.loop-half.half) (at c.loop-half.table c.loop-half.tally c.loop-half.steps) (at c.delete_key.new.table c.delete_key.new.tally c.delete_key.new.steps)
      _ c.in_ok-delete_key.ensures.call c.loop-half.invariant.counts);
}
