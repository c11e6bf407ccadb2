use Rattle.std.proofs.Common.{◌≡◌, ◌≤◌, length, drop, filter, map}
use Rattle.cola_plain_runs.specs.Runs.{as_run}
use Rattle.cola_pairs.specs.Live.{entries, placed, between}
use Rattle.cola_plain_runs.specs.Pairs.{as_entries}
use Rattle.cola_plain_runs.proofs.pairs.live_pairs.Given as goal

-- the items of the runs from `left` on are set
abbrev pub invariant-loop-left : goal.invariant-loop-left
invariant-loop-left g l =
    (as_entries l.entries.items ≡ placed g.K.Ord.cmp (filter (λ e. between g.K.Ord.cmp l.low l.high e.0) (entries (drop l.left (map (λ run. as_run run.items) l.runs)))))
    × (l.left ≤ length l.runs)

abbrev pub decreases-loop-left : goal.decreases-loop-left
decreases-loop-left g l = l.left
