use Rattle.std.proofs.Common.{◌≡◌, drop}
use Rattle.cola_cell.specs.Order.{key_cmp}
use Rattle.cola_runs.specs.Seen.{seen}
use Rattle.cola_plain_runs.specs.Runs.{as_run}
use Rattle.cola_plain_files.proofs.verdict.seen.seen.Given as goal

-- the cells so far have no item of the key
abbrev pub invariant-loop-cell : goal.invariant-loop-cell
invariant-loop-cell l = seen key_cmp l.sought (as_run l.run) ≡ seen key_cmp l.sought (drop l.cell-index (as_run l.run))
