-- Steps of a quota, of which the object takes many at a time.
use Rattle.cola_merge.proofs.Reading.{err_is}
use Rattle.std.proofs.Common.{◌≡◌, ◌-◌, ◌≤◌, ◌<◌, ℕ, refl, sym, subst, ◌∙◌, arith}
use Rattle.cola_cell.specs.Held.{Fixed}
use Rattle.cola_merge.specs.States.{state}
use Rattle.cola_merge.proofs.Taking.{took_none, took_more, ran_out, all_ran, done_ran, refused_ran}
use Rattle.cola_merge.proofs.merging.Merger.run.Goals as goal

pub loop-left-init : goal.loop-left-init
loop-left-init g c = record {
  kept = refl;
  few = omega arith;
  took = let z : c.args.quota - c.args.quota ≡ 0 = omega arith in rw z (took_none (state (g.W.CellSource.state c.args.work.now) c.args.self.now c.args.steps.now) c.requires.ready);
}

pub weave-taken-requires-clause-slot_in : goal.weave-taken-requires-clause-slot_in
weave-taken-requires-clause-slot_in g c = subst (λ (n : ℕ). n < 2) (sym c.loop-left.invariant.took.goes.grows.slot_is) c.requires.slot_in

pub returns-then-rest-eq0-clause-ran : goal.returns-then-rest-eq0-clause-ran
returns-then-rest-eq0-clause-ran g c = all_ran c.args.quota (c.loop-left.left - c.weave-taken.result) c.progress.result c.progress.ensures.more c.progress.ensures.done c.if-rest-eq0.true
    (took_more c.args.quota c.loop-left.left c.weave-taken.result c.requires.ready c.loop-left.invariant.took c.weave-taken.ensures.took c.loop-left.invariant.few c.weave-taken.ensures.few)

pub take-requires-clause-levels : goal.take-requires-clause-levels
take-requires-clause-levels g c = subst (λ (f : Fixed). f.levels ≤ 23) (sym (c.weave-taken.ensures.took.goes.grows.around.fixed_is ∙ c.loop-left.invariant.took.goes.grows.around.fixed_is)) c.requires.levels

pub take-requires-clause-slot_in : goal.take-requires-clause-slot_in
take-requires-clause-slot_in g c = subst (λ (n : ℕ). n < 2) (sym (c.weave-taken.ensures.took.goes.grows.slot_is ∙ c.loop-left.invariant.took.goes.grows.slot_is)) c.requires.slot_in

pub returns-in_err-take-clause-ran : goal.returns-in_err-take-clause-ran
returns-in_err-take-clause-ran g c = refused_ran c.from_residual.result c.in_err-take.field-0.0 (err_is c.from_residual.result c.in_err-take.field-0.0 c.from_residual.ensures.1) c.requires.ready
    (took_more c.args.quota c.loop-left.left c.weave-taken.result c.requires.ready c.loop-left.invariant.took c.weave-taken.ensures.took c.loop-left.invariant.few c.weave-taken.ensures.few)
    c.in_err-take.ensures.taken (omega (arith, c.if-rest-eq0.false, c.loop-left.invariant.few))

pub returns-then-not-branch-clause-ran : goal.returns-then-not-branch-clause-ran
returns-then-not-branch-clause-ran g c = done_ran c.in_ok-take.field-0 c.if-not-branch.true c.requires.ready
    (took_more c.args.quota c.loop-left.left c.weave-taken.result c.requires.ready c.loop-left.invariant.took c.weave-taken.ensures.took c.loop-left.invariant.few c.weave-taken.ensures.few)
    c.in_ok-take.ensures.taken (omega (arith, c.if-rest-eq0.false, c.loop-left.invariant.few))

pub loop-left-preserved : goal.loop-left-preserved
loop-left-preserved g c = record {
  kept = c.in_ok-take.ensures.kept ∙ c.weave-taken.ensures.kept ∙ c.loop-left.invariant.kept;
  few = omega (arith, c.loop-left.invariant.few);
  took = took_more c.args.quota (c.loop-left.left - c.weave-taken.result) 1 c.requires.ready
      (took_more c.args.quota c.loop-left.left c.weave-taken.result c.requires.ready c.loop-left.invariant.took c.weave-taken.ensures.took c.loop-left.invariant.few c.weave-taken.ensures.few)
      (rw c.if-not-branch.false at c.in_ok-take.ensures.taken) (omega (arith, c.loop-left.invariant.few)) (omega (arith, c.if-rest-eq0.false));
}

pub returns-clause-ran : goal.returns-clause-ran
returns-clause-ran g c = all_ran c.args.quota c.loop-left.left c.progress-2.result c.progress-2.ensures.more c.progress-2.ensures.done (omega (arith, c.loop-left-test.false)) c.loop-left.invariant.took

pub returns-then-is_done-clause-ran : goal.returns-then-is_done-clause-ran
returns-then-is_done-clause-ran g c = record { steps = (0, omega arith, took_none (state (g.W.CellSource.state c.args.work.now) c.args.self.now c.args.steps.now) c.requires.ready, c.if-is_done.ensures.0 refl) }

pub returns-then-is_done-2-clause-ran : goal.returns-then-is_done-2-clause-ran
returns-then-is_done-2-clause-ran g c = ran_out c.args.quota (c.loop-left.left - c.weave-taken.result) (c.if-is_done-2.ensures.0 refl)
    (took_more c.args.quota c.loop-left.left c.weave-taken.result c.requires.ready c.loop-left.invariant.took c.weave-taken.ensures.took c.loop-left.invariant.few c.weave-taken.ensures.few)
