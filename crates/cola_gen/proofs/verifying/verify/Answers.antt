use Rattle.std.proofs.Common.{arith, Ok, Err}
use Rattle.std.proofs.lemmas.Result.{err_from_is_err_and}
use Rattle.cola_spec.specs.Bounds.{get_bound}
use Rattle.cola_gen.specs.Keys.{made}
use Rattle.cola_gen.specs.Commands.{gets}
use Rattle.cola_gen.specs.Answered.{Stopped, at, read_refused}
use Rattle.cola_gen.proofs.Counting.{goes_on, counts_on, stops, ended}
use Rattle.cola_gen.proofs.Checking.{sound, wrong, none_wrong, not_over, rises, spent}
use Rattle.cola_gen.proofs.verifying.verify.Goals as goal

pub loop-place-preserved : goal.loop-place-preserved
loop-place-preserved g c = record {
  so_far = goes_on g.T.Table gets get_bound c.args.levels c.loop-place.place (at c.args.table.now c.args.tally.now c.args.steps.now) (at c.loop-place.table c.loop-place.tally c.loop-place.steps) (at c.get_key.new.table c.get_key.new.tally c.get_key.new.steps)
      c.loop-place.invariant.so_far c.in_ok-get_key.ensures.call;
  counts = counts_on g.T.Table gets get_bound c.args.levels c.loop-place.place c.loop-place.place (at c.loop-place.table c.loop-place.tally c.loop-place.steps) (at c.get_key.new.table c.get_key.new.tally c.get_key.new.steps)
      _ c.in_ok-get_key.ensures.call c.loop-place.invariant.counts;
}

-- a get was refused

pub returns-in_err-get_key-clause-given : goal.returns-in_err-get_key-clause-given
returns-in_err-get_key-clause-given g c =
    let p = err_from_is_err_and c.from_residual.result c.from_residual.ensures.1 in rw (p.1, p.2) (
    let stopped : Stopped g.T.Table gets (get_bound (g.T.Table.terms c.args.table.now).depth) c.args.levels (made c.args.keys) (read_refused c.in_err-get_key.field-0.0) (at c.args.table.now c.args.tally.now c.args.steps.now) (at c.get_key.new.table c.get_key.new.tally c.get_key.new.steps) =
    stops g.T.Table gets get_bound c.args.levels c.loop-place.place (made c.args.keys) (read_refused c.in_err-get_key.field-0.0) (at c.args.table.now c.args.tally.now c.args.steps.now) (at c.loop-place.table c.loop-place.tally c.loop-place.steps) (at c.get_key.new.table c.get_key.new.tally c.get_key.new.steps) (omega arith) c.loop-place.invariant.so_far c.in_err-get_key.ensures.call in
    stopped)

pub returns-in_err-get_key-clause-sound : goal.returns-in_err-get_key-clause-sound
returns-in_err-get_key-clause-sound g c =
    λ m held.
    let stopped : Stopped g.T.Table gets (get_bound (g.T.Table.terms c.args.table.now).depth) c.args.levels (made c.args.keys) (read_refused c.in_err-get_key.field-0.0) (at c.args.table.now c.args.tally.now c.args.steps.now) (at c.get_key.new.table c.get_key.new.tally c.get_key.new.steps) =
    stops g.T.Table gets get_bound c.args.levels c.loop-place.place (made c.args.keys) (read_refused c.in_err-get_key.field-0.0) (at c.args.table.now c.args.tally.now c.args.steps.now) (at c.loop-place.table c.loop-place.tally c.loop-place.steps) (at c.get_key.new.table c.get_key.new.tally c.get_key.new.steps) (omega arith) c.loop-place.invariant.so_far c.in_err-get_key.ensures.call in
    sound g.T.Table c.args.levels (made c.args.keys) (at c.args.table.now c.args.tally.now c.args.steps.now) (at c.get_key.new.table c.get_key.new.tally c.get_key.new.steps) (Err c.in_err-get_key.field-0.0) m held stopped

pub returns-in_err-get_key-clause-wrong : goal.returns-in_err-get_key-clause-wrong
returns-in_err-get_key-clause-wrong g c =
    let p = err_from_is_err_and c.from_residual.result c.from_residual.ensures.1 in rw (p.1, p.2) (λ m held.
    let stopped : Stopped g.T.Table gets (get_bound (g.T.Table.terms c.args.table.now).depth) c.args.levels (made c.args.keys) (read_refused c.in_err-get_key.field-0.0) (at c.args.table.now c.args.tally.now c.args.steps.now) (at c.get_key.new.table c.get_key.new.tally c.get_key.new.steps) =
    stops g.T.Table gets get_bound c.args.levels c.loop-place.place (made c.args.keys) (read_refused c.in_err-get_key.field-0.0) (at c.args.table.now c.args.tally.now c.args.steps.now) (at c.loop-place.table c.loop-place.tally c.loop-place.steps) (at c.get_key.new.table c.get_key.new.tally c.get_key.new.steps) (omega arith) c.loop-place.invariant.so_far c.in_err-get_key.ensures.call in
    wrong g.T.Table c.args.levels (made c.args.keys) (at c.args.table.now c.args.tally.now c.args.steps.now) (at c.get_key.new.table c.get_key.new.tally c.get_key.new.steps) (Err c.in_err-get_key.field-0.0) m held stopped)

pub returns-in_err-get_key-clause-not_over : goal.returns-in_err-get_key-clause-not_over
returns-in_err-get_key-clause-not_over g c =
    λ deep.
    let stopped : Stopped g.T.Table gets (get_bound (g.T.Table.terms c.args.table.now).depth) c.args.levels (made c.args.keys) (read_refused c.in_err-get_key.field-0.0) (at c.args.table.now c.args.tally.now c.args.steps.now) (at c.get_key.new.table c.get_key.new.tally c.get_key.new.steps) =
    stops g.T.Table gets get_bound c.args.levels c.loop-place.place (made c.args.keys) (read_refused c.in_err-get_key.field-0.0) (at c.args.table.now c.args.tally.now c.args.steps.now) (at c.loop-place.table c.loop-place.tally c.loop-place.steps) (at c.get_key.new.table c.get_key.new.tally c.get_key.new.steps) (omega arith) c.loop-place.invariant.so_far c.in_err-get_key.ensures.call in
    not_over g.T.Table c.args.levels (made c.args.keys) (at c.args.table.now c.args.tally.now c.args.steps.now) (at c.get_key.new.table c.get_key.new.tally c.get_key.new.steps) (Err c.in_err-get_key.field-0.0) deep stopped

pub returns-in_err-get_key-clause-tallied : goal.returns-in_err-get_key-clause-tallied
returns-in_err-get_key-clause-tallied g c =
    let stopped : Stopped g.T.Table gets (get_bound (g.T.Table.terms c.args.table.now).depth) c.args.levels (made c.args.keys) (read_refused c.in_err-get_key.field-0.0) (at c.args.table.now c.args.tally.now c.args.steps.now) (at c.get_key.new.table c.get_key.new.tally c.get_key.new.steps) =
    stops g.T.Table gets get_bound c.args.levels c.loop-place.place (made c.args.keys) (read_refused c.in_err-get_key.field-0.0) (at c.args.table.now c.args.tally.now c.args.steps.now) (at c.loop-place.table c.loop-place.tally c.loop-place.steps) (at c.get_key.new.table c.get_key.new.tally c.get_key.new.steps) (omega arith) c.loop-place.invariant.so_far c.in_err-get_key.ensures.call in
    rises g.T.Table c.args.levels (made c.args.keys) (at c.args.table.now c.args.tally.now c.args.steps.now) (at c.get_key.new.table c.get_key.new.tally c.get_key.new.steps) (Err c.in_err-get_key.field-0.0) stopped

pub returns-in_err-get_key-clause-spent : goal.returns-in_err-get_key-clause-spent
returns-in_err-get_key-clause-spent g c =
    let stopped : Stopped g.T.Table gets (get_bound (g.T.Table.terms c.args.table.now).depth) c.args.levels (made c.args.keys) (read_refused c.in_err-get_key.field-0.0) (at c.args.table.now c.args.tally.now c.args.steps.now) (at c.get_key.new.table c.get_key.new.tally c.get_key.new.steps) =
    stops g.T.Table gets get_bound c.args.levels c.loop-place.place (made c.args.keys) (read_refused c.in_err-get_key.field-0.0) (at c.args.table.now c.args.tally.now c.args.steps.now) (at c.loop-place.table c.loop-place.tally c.loop-place.steps) (at c.get_key.new.table c.get_key.new.tally c.get_key.new.steps) (omega arith) c.loop-place.invariant.so_far c.in_err-get_key.ensures.call in
    spent g.T.Table c.args.levels (made c.args.keys) (at c.args.table.now c.args.tally.now c.args.steps.now) (at c.get_key.new.table c.get_key.new.tally c.get_key.new.steps) (Err c.in_err-get_key.field-0.0) stopped

-- none was

pub returns-clause-given : goal.returns-clause-given
returns-clause-given g c =
    let all = ended g.T.Table gets (get_bound (g.T.Table.terms c.args.table.now).depth) c.args.levels c.loop-place.place (made c.args.keys) (at c.args.table.now c.args.tally.now c.args.steps.now) (at c.loop-place.table c.loop-place.tally c.loop-place.steps) (omega arith) c.loop-place.invariant.so_far in
    all

pub returns-clause-sound : goal.returns-clause-sound
returns-clause-sound g c =
    λ m held.
    let all = ended g.T.Table gets (get_bound (g.T.Table.terms c.args.table.now).depth) c.args.levels c.loop-place.place (made c.args.keys) (at c.args.table.now c.args.tally.now c.args.steps.now) (at c.loop-place.table c.loop-place.tally c.loop-place.steps) (omega arith) c.loop-place.invariant.so_far in
    sound g.T.Table c.args.levels (made c.args.keys) (at c.args.table.now c.args.tally.now c.args.steps.now) (at c.loop-place.table c.loop-place.tally c.loop-place.steps) (Ok tt) m held all

pub returns-clause-wrong : goal.returns-clause-wrong
returns-clause-wrong g c =
    λ m held.
    let all = ended g.T.Table gets (get_bound (g.T.Table.terms c.args.table.now).depth) c.args.levels c.loop-place.place (made c.args.keys) (at c.args.table.now c.args.tally.now c.args.steps.now) (at c.loop-place.table c.loop-place.tally c.loop-place.steps) (omega arith) c.loop-place.invariant.so_far in
    wrong g.T.Table c.args.levels (made c.args.keys) (at c.args.table.now c.args.tally.now c.args.steps.now) (at c.loop-place.table c.loop-place.tally c.loop-place.steps) (Ok tt) m held all

pub returns-clause-none_wrong : goal.returns-clause-none_wrong
returns-clause-none_wrong g c =
    λ m held has.
    let all = ended g.T.Table gets (get_bound (g.T.Table.terms c.args.table.now).depth) c.args.levels c.loop-place.place (made c.args.keys) (at c.args.table.now c.args.tally.now c.args.steps.now) (at c.loop-place.table c.loop-place.tally c.loop-place.steps) (omega arith) c.loop-place.invariant.so_far in
    none_wrong g.T.Table c.args.levels (made c.args.keys) (at c.args.table.now c.args.tally.now c.args.steps.now) (at c.loop-place.table c.loop-place.tally c.loop-place.steps) (Ok tt) m held has all

pub returns-clause-not_over : goal.returns-clause-not_over
returns-clause-not_over g c =
    λ deep.
    let all = ended g.T.Table gets (get_bound (g.T.Table.terms c.args.table.now).depth) c.args.levels c.loop-place.place (made c.args.keys) (at c.args.table.now c.args.tally.now c.args.steps.now) (at c.loop-place.table c.loop-place.tally c.loop-place.steps) (omega arith) c.loop-place.invariant.so_far in
    not_over g.T.Table c.args.levels (made c.args.keys) (at c.args.table.now c.args.tally.now c.args.steps.now) (at c.loop-place.table c.loop-place.tally c.loop-place.steps) (Ok tt) deep all

pub returns-clause-tallied : goal.returns-clause-tallied
returns-clause-tallied g c =
    let all = ended g.T.Table gets (get_bound (g.T.Table.terms c.args.table.now).depth) c.args.levels c.loop-place.place (made c.args.keys) (at c.args.table.now c.args.tally.now c.args.steps.now) (at c.loop-place.table c.loop-place.tally c.loop-place.steps) (omega arith) c.loop-place.invariant.so_far in
    rises g.T.Table c.args.levels (made c.args.keys) (at c.args.table.now c.args.tally.now c.args.steps.now) (at c.loop-place.table c.loop-place.tally c.loop-place.steps) (Ok tt) all

pub returns-clause-spent : goal.returns-clause-spent
returns-clause-spent g c =
    let all = ended g.T.Table gets (get_bound (g.T.Table.terms c.args.table.now).depth) c.args.levels c.loop-place.place (made c.args.keys) (at c.args.table.now c.args.tally.now c.args.steps.now) (at c.loop-place.table c.loop-place.tally c.loop-place.steps) (omega arith) c.loop-place.invariant.so_far in
    spent g.T.Table c.args.levels (made c.args.keys) (at c.args.table.now c.args.tally.now c.args.steps.now) (at c.loop-place.table c.loop-place.tally c.loop-place.steps) (Ok tt) all
