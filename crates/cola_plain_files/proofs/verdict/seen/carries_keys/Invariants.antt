use Rattle.std.proofs.Common.{◌↔◌, drop}
use Rattle.std.specs.List.{AllByRecursion}
use Rattle.cola_runs.specs.Cells.{key_of}
use Rattle.cola_plain_runs.specs.Runs.{as_run, as_part}
use Rattle.cola_plain_files.specs.Levels.{CarriesKey}
use Rattle.cola_plain_files.proofs.verdict.seen.carries_keys.Given as goal

-- what is left to look at decides
abbrev pub invariant-loop-cell : goal.invariant-loop-cell
invariant-loop-cell l =
    AllByRecursion (λ c. CarriesKey (as_part l.part) l.keeps_all (as_run l.above) (as_run l.own) (as_run l.shadow) (key_of c)) (as_run l.cells)
    ↔ AllByRecursion (λ c. CarriesKey (as_part l.part) l.keeps_all (as_run l.above) (as_run l.own) (as_run l.shadow) (key_of c)) (drop l.cell-index (as_run l.cells))
