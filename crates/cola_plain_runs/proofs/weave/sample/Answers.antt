use Rattle.std.proofs.Common.{◌-◌, ◌%◌, ◌∙◌, ap, refl}
use Rattle.cola_runs.specs.Cells.{every_eighth}
use Rattle.cola_plain_runs.specs.Runs.{as_cell}
use Rattle.cola_plain_runs.proofs.Lists.{run_from, run_end}
use Rattle.cola_plain_runs.proofs.Weaving.{sample_take, sample_skip, made_all}
use Rattle.cola_plain_runs.proofs.weave.sample.Goals as goal
use Rattle.cola_plain_runs.proofs.weave.sample.Goals.{then-i-eq7+in_ok-push, else-i-eq7}

pub loop-i-preserved : goal.loop-i-preserved
loop-i-preserved g c =
    let here = run_from c.args.run.now c.loop-i.i c.index-run-i.result c.loop-i-test.true c.index-run-i.is in
    elim c.if-i-eq7.branch [
      | then-i-eq7+in_ok-push w ↦ sample_take c.loop-i.i (as_cell c.index-run-i.result) _ _ c.loop-i.keys.items c.if-i-eq7.keys.items _ w.key.result w.if-i-eq7.true here w.key.ensures
          (ap (λ v. v.items) w.keys-is ∙ w.in_ok-push.ensures.items) c.loop-i.invariant
      | else-i-eq7 w ↦ sample_skip c.loop-i.i (as_cell c.index-run-i.result) _ _ c.if-i-eq7.keys.items _ w.if-i-eq7.false here
          (rw w.keys-is c.loop-i.invariant)
    ]

pub returns : goal.returns
returns g c =
    let none = run_end c.args.run.now c.loop-i.i c.loop-i-test.false in
    made_all (every_eighth (7 - c.loop-i.i % 8)) refl _ _ _ none c.loop-i.invariant
