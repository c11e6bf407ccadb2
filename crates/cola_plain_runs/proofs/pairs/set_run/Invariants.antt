use Rattle.std.proofs.Common.{◌≡◌, ◌≤◌, ◌++◌, List, length, drop, filter}
use Rattle.cola_runs.specs.Cells.{Item}
use Rattle.cola_plain_runs.specs.Runs.{as_run}
use Rattle.cola_pairs.specs.Live.{items, placed, between}
use Rattle.cola_plain_runs.specs.Pairs.{as_entries}
use Rattle.cola_plain_runs.proofs.pairs.set_run.Given as goal

-- the items from `left` on are set
abbrev pub invariant-loop-left : goal.invariant-loop-left
invariant-loop-left g l =
    ((es : List (g.row.K.Denot × Item g.row.V.Denot)) → as_entries l.fn.entries.items ≡ placed g.K.Ord.cmp es →
    as_entries l.entries.items ≡ placed g.K.Ord.cmp (filter (λ e. between g.K.Ord.cmp l.low l.high e.0) (items (drop l.left (as_run l.run))) ++ es))
    × (l.left ≤ length l.run)

abbrev pub decreases-loop-left : goal.decreases-loop-left
decreases-loop-left g l = l.left
