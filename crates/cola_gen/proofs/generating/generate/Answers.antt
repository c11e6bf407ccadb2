use Rattle.std.proofs.Common.{arith, subst, inl, Err}
use Rattle.std.proofs.lemmas.Result.{err_from_is_err_and}
use Rattle.cola_spec.specs.Bounds.{put_bound}
use Rattle.cola_table.specs.Replies.{put_refused}
use Rattle.cola_gen.specs.Keys as spec
use Rattle.cola_gen.specs.Keys.{evens}
use Rattle.cola_gen.specs.Commands.{puts}
use Rattle.cola_gen.specs.Answered.{Stopped, Second, at}
use Rattle.cola_gen.proofs.Making.{and_second, generated, spent, rises, not_over, left, from_empty}
use Rattle.cola_gen.proofs.generating.generate.Goals as goal

-- a put was refused

pub returns-in_err-put_keys-clause-from_empty : goal.returns-in_err-put_keys-clause-from_empty
returns-in_err-put_keys-clause-from_empty g c =
    let p = err_from_is_err_and c.from_residual.result c.from_residual.ensures.1 in rw (p.1, p.2) (λ held room.
    let stopped : Stopped g.T.Table puts (put_bound (g.T.Table.terms c.args.table.now).depth) c.args.levels (spec.made c.args.keys) (put_refused c.in_err-put_keys.field-0.0) (at c.args.table.now c.args.tally.now c.args.steps.now) (at c.put_keys.new.table c.put_keys.new.tally c.put_keys.new.steps) =
    subst (λ n. Stopped g.T.Table puts (put_bound (g.T.Table.terms c.args.table.now).depth) c.args.levels n (put_refused c.in_err-put_keys.field-0.0) (at c.args.table.now c.args.tally.now c.args.steps.now) (at c.put_keys.new.table c.put_keys.new.tally c.put_keys.new.steps)) c.made-number.ensures c.in_err-put_keys.ensures.ran in
    from_empty g.T.Table c.args.levels (spec.made c.args.keys) (at c.args.table.now c.args.tally.now c.args.steps.now) (at c.put_keys.new.table c.put_keys.new.tally c.put_keys.new.steps) held (omega (arith, c.ranges.keys.fits)) room (Err c.in_err-put_keys.field-0.0) (inl stopped))

pub returns-in_err-put_keys-clause-not_over : goal.returns-in_err-put_keys-clause-not_over
returns-in_err-put_keys-clause-not_over g c =
    λ deep.
    let stopped : Stopped g.T.Table puts (put_bound (g.T.Table.terms c.args.table.now).depth) c.args.levels (spec.made c.args.keys) (put_refused c.in_err-put_keys.field-0.0) (at c.args.table.now c.args.tally.now c.args.steps.now) (at c.put_keys.new.table c.put_keys.new.tally c.put_keys.new.steps) =
    subst (λ n. Stopped g.T.Table puts (put_bound (g.T.Table.terms c.args.table.now).depth) c.args.levels n (put_refused c.in_err-put_keys.field-0.0) (at c.args.table.now c.args.tally.now c.args.steps.now) (at c.put_keys.new.table c.put_keys.new.tally c.put_keys.new.steps)) c.made-number.ensures c.in_err-put_keys.ensures.ran in
    not_over g.T.Table c.args.levels (spec.made c.args.keys) (at c.args.table.now c.args.tally.now c.args.steps.now) (at c.put_keys.new.table c.put_keys.new.tally c.put_keys.new.steps) (Err c.in_err-put_keys.field-0.0) deep (inl stopped)

pub returns-in_err-put_keys-clause-tallied : goal.returns-in_err-put_keys-clause-tallied
returns-in_err-put_keys-clause-tallied g c =
    let stopped : Stopped g.T.Table puts (put_bound (g.T.Table.terms c.args.table.now).depth) c.args.levels (spec.made c.args.keys) (put_refused c.in_err-put_keys.field-0.0) (at c.args.table.now c.args.tally.now c.args.steps.now) (at c.put_keys.new.table c.put_keys.new.tally c.put_keys.new.steps) =
    subst (λ n. Stopped g.T.Table puts (put_bound (g.T.Table.terms c.args.table.now).depth) c.args.levels n (put_refused c.in_err-put_keys.field-0.0) (at c.args.table.now c.args.tally.now c.args.steps.now) (at c.put_keys.new.table c.put_keys.new.tally c.put_keys.new.steps)) c.made-number.ensures c.in_err-put_keys.ensures.ran in
    rises g.T.Table c.args.levels (spec.made c.args.keys) (at c.args.table.now c.args.tally.now c.args.steps.now) (at c.put_keys.new.table c.put_keys.new.tally c.put_keys.new.steps) (Err c.in_err-put_keys.field-0.0) (inl stopped)

pub returns-in_err-put_keys-clause-spent : goal.returns-in_err-put_keys-clause-spent
returns-in_err-put_keys-clause-spent g c =
    let stopped : Stopped g.T.Table puts (put_bound (g.T.Table.terms c.args.table.now).depth) c.args.levels (spec.made c.args.keys) (put_refused c.in_err-put_keys.field-0.0) (at c.args.table.now c.args.tally.now c.args.steps.now) (at c.put_keys.new.table c.put_keys.new.tally c.put_keys.new.steps) =
    subst (λ n. Stopped g.T.Table puts (put_bound (g.T.Table.terms c.args.table.now).depth) c.args.levels n (put_refused c.in_err-put_keys.field-0.0) (at c.args.table.now c.args.tally.now c.args.steps.now) (at c.put_keys.new.table c.put_keys.new.tally c.put_keys.new.steps)) c.made-number.ensures c.in_err-put_keys.ensures.ran in
    spent g.T.Table c.args.levels (spec.made c.args.keys) (at c.args.table.now c.args.tally.now c.args.steps.now) (at c.put_keys.new.table c.put_keys.new.tally c.put_keys.new.steps) (Err c.in_err-put_keys.field-0.0) (inl stopped)

-- no put was refused

pub returns-clause-given : goal.returns-clause-given
returns-clause-given g c =
    let second : Second g.T.Table (put_bound (g.T.Table.terms c.args.table.now).depth) c.args.levels (spec.made c.args.keys) c.delete_keys.result (at c.args.table.now c.args.tally.now c.args.steps.now) (at c.delete_keys.new.table c.delete_keys.new.tally c.delete_keys.new.steps) =
    subst (λ n. Second g.T.Table (put_bound (g.T.Table.terms c.args.table.now).depth) c.args.levels n c.delete_keys.result (at c.args.table.now c.args.tally.now c.args.steps.now) (at c.delete_keys.new.table c.delete_keys.new.tally c.delete_keys.new.steps)) c.made-number.ensures
    (and_second g.T.Table c.args.levels c.made-number.result (at c.args.table.now c.args.tally.now c.args.steps.now) (at c.delete_keys.new.table c.delete_keys.new.tally c.delete_keys.new.steps) c.delete_keys.result (at c.put_keys.new.table c.put_keys.new.tally c.put_keys.new.steps) c.in_ok-put_keys.ensures.ran c.delete_keys.ensures.ran) in
    let made = generated g.T.Table c.args.levels (spec.made c.args.keys) (at c.args.table.now c.args.tally.now c.args.steps.now) (at c.delete_keys.new.table c.delete_keys.new.tally c.delete_keys.new.steps) c.delete_keys.result second in
    made

pub returns-clause-left : goal.returns-clause-left
returns-clause-left g c =
    λ m held.
    let second : Second g.T.Table (put_bound (g.T.Table.terms c.args.table.now).depth) c.args.levels (spec.made c.args.keys) c.delete_keys.result (at c.args.table.now c.args.tally.now c.args.steps.now) (at c.delete_keys.new.table c.delete_keys.new.tally c.delete_keys.new.steps) =
    subst (λ n. Second g.T.Table (put_bound (g.T.Table.terms c.args.table.now).depth) c.args.levels n c.delete_keys.result (at c.args.table.now c.args.tally.now c.args.steps.now) (at c.delete_keys.new.table c.delete_keys.new.tally c.delete_keys.new.steps)) c.made-number.ensures
    (and_second g.T.Table c.args.levels c.made-number.result (at c.args.table.now c.args.tally.now c.args.steps.now) (at c.delete_keys.new.table c.delete_keys.new.tally c.delete_keys.new.steps) c.delete_keys.result (at c.put_keys.new.table c.put_keys.new.tally c.put_keys.new.steps) c.in_ok-put_keys.ensures.ran c.delete_keys.ensures.ran) in
    let made = generated g.T.Table c.args.levels (spec.made c.args.keys) (at c.args.table.now c.args.tally.now c.args.steps.now) (at c.delete_keys.new.table c.delete_keys.new.tally c.delete_keys.new.steps) c.delete_keys.result second in
    left g.T.Table c.args.levels (spec.made c.args.keys) (at c.args.table.now c.args.tally.now c.args.steps.now) (at c.delete_keys.new.table c.delete_keys.new.tally c.delete_keys.new.steps) c.delete_keys.result m held made

pub returns-clause-from_empty : goal.returns-clause-from_empty
returns-clause-from_empty g c =
    λ held room.
    let second : Second g.T.Table (put_bound (g.T.Table.terms c.args.table.now).depth) c.args.levels (spec.made c.args.keys) c.delete_keys.result (at c.args.table.now c.args.tally.now c.args.steps.now) (at c.delete_keys.new.table c.delete_keys.new.tally c.delete_keys.new.steps) =
    subst (λ n. Second g.T.Table (put_bound (g.T.Table.terms c.args.table.now).depth) c.args.levels n c.delete_keys.result (at c.args.table.now c.args.tally.now c.args.steps.now) (at c.delete_keys.new.table c.delete_keys.new.tally c.delete_keys.new.steps)) c.made-number.ensures
    (and_second g.T.Table c.args.levels c.made-number.result (at c.args.table.now c.args.tally.now c.args.steps.now) (at c.delete_keys.new.table c.delete_keys.new.tally c.delete_keys.new.steps) c.delete_keys.result (at c.put_keys.new.table c.put_keys.new.tally c.put_keys.new.steps) c.in_ok-put_keys.ensures.ran c.delete_keys.ensures.ran) in
    let made = generated g.T.Table c.args.levels (spec.made c.args.keys) (at c.args.table.now c.args.tally.now c.args.steps.now) (at c.delete_keys.new.table c.delete_keys.new.tally c.delete_keys.new.steps) c.delete_keys.result second in
    from_empty g.T.Table c.args.levels (spec.made c.args.keys) (at c.args.table.now c.args.tally.now c.args.steps.now) (at c.delete_keys.new.table c.delete_keys.new.tally c.delete_keys.new.steps) held (omega (arith, c.ranges.keys.fits)) room c.delete_keys.result made

pub returns-clause-not_over : goal.returns-clause-not_over
returns-clause-not_over g c =
    λ deep.
    let second : Second g.T.Table (put_bound (g.T.Table.terms c.args.table.now).depth) c.args.levels (spec.made c.args.keys) c.delete_keys.result (at c.args.table.now c.args.tally.now c.args.steps.now) (at c.delete_keys.new.table c.delete_keys.new.tally c.delete_keys.new.steps) =
    subst (λ n. Second g.T.Table (put_bound (g.T.Table.terms c.args.table.now).depth) c.args.levels n c.delete_keys.result (at c.args.table.now c.args.tally.now c.args.steps.now) (at c.delete_keys.new.table c.delete_keys.new.tally c.delete_keys.new.steps)) c.made-number.ensures
    (and_second g.T.Table c.args.levels c.made-number.result (at c.args.table.now c.args.tally.now c.args.steps.now) (at c.delete_keys.new.table c.delete_keys.new.tally c.delete_keys.new.steps) c.delete_keys.result (at c.put_keys.new.table c.put_keys.new.tally c.put_keys.new.steps) c.in_ok-put_keys.ensures.ran c.delete_keys.ensures.ran) in
    let made = generated g.T.Table c.args.levels (spec.made c.args.keys) (at c.args.table.now c.args.tally.now c.args.steps.now) (at c.delete_keys.new.table c.delete_keys.new.tally c.delete_keys.new.steps) c.delete_keys.result second in
    not_over g.T.Table c.args.levels (spec.made c.args.keys) (at c.args.table.now c.args.tally.now c.args.steps.now) (at c.delete_keys.new.table c.delete_keys.new.tally c.delete_keys.new.steps) c.delete_keys.result deep made

pub returns-clause-tallied : goal.returns-clause-tallied
returns-clause-tallied g c =
    let second : Second g.T.Table (put_bound (g.T.Table.terms c.args.table.now).depth) c.args.levels (spec.made c.args.keys) c.delete_keys.result (at c.args.table.now c.args.tally.now c.args.steps.now) (at c.delete_keys.new.table c.delete_keys.new.tally c.delete_keys.new.steps) =
    subst (λ n. Second g.T.Table (put_bound (g.T.Table.terms c.args.table.now).depth) c.args.levels n c.delete_keys.result (at c.args.table.now c.args.tally.now c.args.steps.now) (at c.delete_keys.new.table c.delete_keys.new.tally c.delete_keys.new.steps)) c.made-number.ensures
    (and_second g.T.Table c.args.levels c.made-number.result (at c.args.table.now c.args.tally.now c.args.steps.now) (at c.delete_keys.new.table c.delete_keys.new.tally c.delete_keys.new.steps) c.delete_keys.result (at c.put_keys.new.table c.put_keys.new.tally c.put_keys.new.steps) c.in_ok-put_keys.ensures.ran c.delete_keys.ensures.ran) in
    let made = generated g.T.Table c.args.levels (spec.made c.args.keys) (at c.args.table.now c.args.tally.now c.args.steps.now) (at c.delete_keys.new.table c.delete_keys.new.tally c.delete_keys.new.steps) c.delete_keys.result second in
    rises g.T.Table c.args.levels (spec.made c.args.keys) (at c.args.table.now c.args.tally.now c.args.steps.now) (at c.delete_keys.new.table c.delete_keys.new.tally c.delete_keys.new.steps) c.delete_keys.result made

pub returns-clause-spent : goal.returns-clause-spent
returns-clause-spent g c =
    let second : Second g.T.Table (put_bound (g.T.Table.terms c.args.table.now).depth) c.args.levels (spec.made c.args.keys) c.delete_keys.result (at c.args.table.now c.args.tally.now c.args.steps.now) (at c.delete_keys.new.table c.delete_keys.new.tally c.delete_keys.new.steps) =
    subst (λ n. Second g.T.Table (put_bound (g.T.Table.terms c.args.table.now).depth) c.args.levels n c.delete_keys.result (at c.args.table.now c.args.tally.now c.args.steps.now) (at c.delete_keys.new.table c.delete_keys.new.tally c.delete_keys.new.steps)) c.made-number.ensures
    (and_second g.T.Table c.args.levels c.made-number.result (at c.args.table.now c.args.tally.now c.args.steps.now) (at c.delete_keys.new.table c.delete_keys.new.tally c.delete_keys.new.steps) c.delete_keys.result (at c.put_keys.new.table c.put_keys.new.tally c.put_keys.new.steps) c.in_ok-put_keys.ensures.ran c.delete_keys.ensures.ran) in
    let made = generated g.T.Table c.args.levels (spec.made c.args.keys) (at c.args.table.now c.args.tally.now c.args.steps.now) (at c.delete_keys.new.table c.delete_keys.new.tally c.delete_keys.new.steps) c.delete_keys.result second in
    spent g.T.Table c.args.levels (spec.made c.args.keys) (at c.args.table.now c.args.tally.now c.args.steps.now) (at c.delete_keys.new.table c.delete_keys.new.tally c.delete_keys.new.steps) c.delete_keys.result made
