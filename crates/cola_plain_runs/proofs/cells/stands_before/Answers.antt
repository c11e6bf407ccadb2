use Rattle.std.proofs.Common.{◌≡◌, ◌∙◌, sym, Less, arith}
use Rattle.std.specs.List.{AllByRecursion}
use Rattle.cola_runs.specs.Cells.{place_cmp}
use Rattle.cola_plain_runs.specs.Runs.{as_cell}
use Rattle.cola_runs.proofs.Deciding.{not_less, is_less, refuses, accepts}
use Rattle.cola_plain_runs.proofs.Lists.{run_from, run_end, same_from, all_next, all_fails}
use Rattle.cola_plain_runs.proofs.cells.stands_before.Goals as goal

pub loop-other-preserved : goal.loop-other-preserved
loop-other-preserved g c =
    let here = run_from c.args.others.now c.loop-other.other-index c.other-item.result (omega arith) c.other-item.is in
    all_next _ (as_cell c.other-item.result) _ (sym c.compare.ensures ∙ is_less c.compare.result (sym c.is_lt.ensures ∙ c.if-not-is_lt.false))
    (same_from (AllByRecursion (λ d. place_cmp g.K.Ord.cmp (as_cell c.args.cell.now) d ≡ Less)) _ _ here c.loop-other.invariant)

pub returns-then-not-is_lt : goal.returns-then-not-is_lt
returns-then-not-is_lt g c =
    let here = run_from c.args.others.now c.loop-other.other-index c.other-item.result (omega arith) c.other-item.is in
    refuses (all_fails _ (as_cell c.other-item.result) _ (λ e. not_less c.compare.result (sym c.is_lt.ensures ∙ c.if-not-is_lt.true) (c.compare.ensures ∙ e))
    (same_from (AllByRecursion (λ d. place_cmp g.K.Ord.cmp (as_cell c.args.cell.now) d ≡ Less)) _ _ here c.loop-other.invariant))

pub returns : goal.returns
returns g c =
    let none = run_end c.args.others.now c.loop-other.other-index (omega arith) in
    accepts ((same_from (AllByRecursion (λ d. place_cmp g.K.Ord.cmp (as_cell c.args.cell.now) d ≡ Less)) _ _ none c.loop-other.invariant).1 tt)
