use Rattle.std.proofs.Common.{◌≡◌, ◌↔◌, drop}
use Rattle.std.specs.List.{AllByRecursion}
use Rattle.std.specs.declared.cmp.Ordering.TheVariants.{Less}
use Rattle.cola_runs.specs.Cells.{place_cmp}
use Rattle.cola_plain_runs.specs.Runs.{as_cell, as_run}
use Rattle.cola_plain_runs.proofs.cells.stands_before.Given as goal

-- what is left to compare decides
abbrev pub invariant-loop-other : goal.invariant-loop-other
invariant-loop-other g l = AllByRecursion (λ d. place_cmp g.K.Ord.cmp (as_cell l.cell) d ≡ Less) (as_run l.others) ↔
    AllByRecursion (λ d. place_cmp g.K.Ord.cmp (as_cell l.cell) d ≡ Less) (drop l.other-index (as_run l.others))
