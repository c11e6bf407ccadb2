use Rattle.std.proofs.Common.{◌≡◌, ◌+◌, sym, subst, drop, Less, arith}
use Rattle.std.specs.List.{AllByRecursion}
use Rattle.cola_runs.specs.Cells.{place_cmp, IsRising}
use Rattle.cola_plain_runs.specs.Runs.{as_cell, as_run}
use Rattle.cola_runs.proofs.Deciding.{refuses, accepts, false_is}
use Rattle.cola_plain_runs.proofs.Lists.{run_from, run_end, run_behind, same_from, rising_next, rising_fails, rising_none}
use Rattle.cola_plain_runs.proofs.cells.is_rising.Goals as goal

pub loop-i-preserved : goal.loop-i-preserved
loop-i-preserved g c =
    let here = run_from c.args.run.now c.loop-i.i c.index-run-i.result c.loop-i-test.true c.index-run-i.is in
    rising_next g.K.Ord.cmp (as_cell c.index-run-i.result) (drop (c.loop-i.i + 1) (as_run c.args.run.now))
    (subst (AllByRecursion (λ d. place_cmp g.K.Ord.cmp (as_cell c.index-run-i.result) d ≡ Less)) (run_behind c.args.run.now c.loop-i.i) (c.stands_before.ensures.0 c.if-not-stands_before.false))
    (same_from (IsRising g.K.Ord.cmp) _ _ here c.loop-i.invariant)

pub returns-then-not-stands_before : goal.returns-then-not-stands_before
returns-then-not-stands_before g c =
    let here = run_from c.args.run.now c.loop-i.i c.index-run-i.result c.loop-i-test.true c.index-run-i.is in
    refuses (rising_fails g.K.Ord.cmp (as_cell c.index-run-i.result) (drop (c.loop-i.i + 1) (as_run c.args.run.now))
    (λ h. false_is c.stands_before.result c.if-not-stands_before.true
    (c.stands_before.ensures.1 (subst (AllByRecursion (λ d. place_cmp g.K.Ord.cmp (as_cell c.index-run-i.result) d ≡ Less)) (sym (run_behind c.args.run.now c.loop-i.i)) h)))
    (same_from (IsRising g.K.Ord.cmp) _ _ here c.loop-i.invariant))

pub returns : goal.returns
returns g c =
    let none = run_end c.args.run.now c.loop-i.i (omega arith) in
    accepts (rising_none g.row.V.Denot g.K.Ord.cmp (same_from (IsRising g.K.Ord.cmp) _ _ none c.loop-i.invariant))
