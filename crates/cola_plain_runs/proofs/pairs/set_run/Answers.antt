use Rattle.std.proofs.Common.{◌≡◌, ◌+◌, ◌-◌, ◌∷◌, ◌∙◌, ap, drop, arith}
use Rattle.cola_plain_runs.specs.Runs.{as_cell, as_run}
use Rattle.cola_pairs.specs.Live.{between}
use Rattle.cola_plain_runs.proofs.Setting.{mapped_from, run_next}
use Rattle.cola_plain_runs.proofs.pairs.set_run.Goals as goal

pub loop-left-preserved : goal.loop-left-preserved
loop-left-preserved g c =
    let back : (c.loop-left.left - 1) + 1 ≡ c.loop-left.left = omega arith in
    let here = mapped_from as_cell c.args.run.now (c.loop-left.left - 1) c.index-run-left.result (omega arith) c.index-run-left.is
    ∙ ap (λ m. as_cell c.index-run-left.result ∷ drop m (as_run c.args.run.now)) back in (
      λ es h. run_next g.K.Ord.cmp (between g.K.Ord.cmp c.args.low.now c.args.high.now) (as_cell c.index-run-left.result) (drop c.loop-left.left (as_run c.args.run.now)) _ es _ here
          (c.in_ok-set_cell.ensures _ (c.loop-left.invariant.0 es h)),
      omega arith,
    )
