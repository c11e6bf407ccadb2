use Rattle.std.proofs.Common.{◌≡◌, ◌++◌, drop, true, cond}
use Rattle.cola_runs.specs.Weave.{taken}
use Rattle.cola_plain_runs.specs.Runs.{as_run}
use Rattle.cola_plain_runs.proofs.weave.take_items.Given as goal

-- what was taken, and what the rest gives
abbrev pub invariant-loop-cell : goal.invariant-loop-cell
invariant-loop-cell g l = as_run l.items.items ++ taken (λ y. cond l.only_young y true) l.young (drop l.cell-index (as_run l.cells)) ≡ taken (λ y. cond l.only_young y true) l.young (as_run l.cells)
