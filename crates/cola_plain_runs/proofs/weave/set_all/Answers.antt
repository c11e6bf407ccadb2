use Rattle.std.proofs.Common.{◌≡◌, ◌+◌, ◌-◌, ◌∷◌, ◌∙◌, ap, drop, arith}
use Rattle.cola_plain_runs.specs.Runs.{as_cell, as_run}
use Rattle.cola_plain_runs.proofs.Lists.{run_from}
use Rattle.cola_plain_runs.proofs.Weaving.{set_next}
use Rattle.cola_plain_runs.proofs.weave.set_all.Goals as goal

pub loop-left-preserved : goal.loop-left-preserved
loop-left-preserved g c =
    let back : (c.loop-left.left - 1) + 1 ≡ c.loop-left.left = omega arith in
    let here = run_from c.args.more.now (c.loop-left.left - 1) c.index-more-left.result (omega arith) c.index-more-left.is
    ∙ ap (λ m. as_cell c.index-more-left.result ∷ drop m (as_run c.args.more.now)) back in (
      set_next g.K.Ord.cmp (as_run c.args.more.now) (as_run c.args.cells.now.items) (as_run c.loop-left.cells.items) (as_run c.set.new.cells.items) (as_cell c.index-more-left.result) c.loop-left.left (c.loop-left.left - 1)
          here c.in_ok-set.ensures c.loop-left.invariant.0,
      omega arith,
    )
