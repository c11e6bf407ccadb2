use Rattle.std.proofs.Common.{sym, subst, List, ℕ}
use Rattle.std.specs.List.{AllByRecursion}
use Rattle.cola_runs.specs.Cells.{key_of}
use Rattle.cola_plain_runs.specs.Runs.{as_cell, as_run, as_part}
use Rattle.cola_runs.proofs.Deciding.{refuses, false_is}
use Rattle.cola_plain_runs.proofs.Lists.{run_from, same_from, all_next, all_fails}
use Rattle.cola_plain_files.specs.Levels.{CarriesKey}
use Rattle.cola_plain_files.proofs.verdict.seen.carries_keys.Goals as goal

pub loop-cell-preserved : goal.loop-cell-preserved
loop-cell-preserved c =
    let here = run_from c.args.cells.now c.loop-cell.cell-index c.cell-item.result c.loop-cell-test.true c.cell-item.is in
    all_next _ (as_cell c.cell-item.result) _
    (subst (λ (q : List ℕ). CarriesKey (as_part c.args.part.now) c.args.keeps_all (as_run c.args.above.now) (as_run c.args.own.now) (as_run c.args.shadow.now) q) c.key.ensures
    (c.carries_key.ensures.0 c.if-not-carries_key.false))
    (same_from (AllByRecursion (λ d. CarriesKey (as_part c.args.part.now) c.args.keeps_all (as_run c.args.above.now) (as_run c.args.own.now) (as_run c.args.shadow.now) (key_of d))) _ _ here c.loop-cell.invariant)

pub returns-then-not-carries_key : goal.returns-then-not-carries_key
returns-then-not-carries_key c =
    let here = run_from c.args.cells.now c.loop-cell.cell-index c.cell-item.result c.loop-cell-test.true c.cell-item.is in
    refuses (all_fails _ (as_cell c.cell-item.result) _
    (λ p. false_is c.carries_key.result c.if-not-carries_key.true (c.carries_key.ensures.1
    (subst (λ (q : List ℕ). CarriesKey (as_part c.args.part.now) c.args.keeps_all (as_run c.args.above.now) (as_run c.args.own.now) (as_run c.args.shadow.now) q) (sym c.key.ensures) p)))
    (same_from (AllByRecursion (λ d. CarriesKey (as_part c.args.part.now) c.args.keeps_all (as_run c.args.above.now) (as_run c.args.own.now) (as_run c.args.shadow.now) (key_of d))) _ _ here c.loop-cell.invariant))
