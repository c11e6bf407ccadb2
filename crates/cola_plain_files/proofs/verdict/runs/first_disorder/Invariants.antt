use Rattle.std.proofs.Common.{◌-◌, ◌<◌, ◌≤◌, length, take}
use Rattle.cola_plain_runs.specs.Runs.{as_run}
use Rattle.cola_verdict.specs.Tests.{IsInOrder}
use Rattle.cola_plain_files.proofs.verdict.runs.first_disorder.Given as goal

-- a prefix that is well formed, and a longer one that is not
abbrev pub invariant-loop-broken : goal.invariant-loop-broken
invariant-loop-broken l =
    (l.ordered < l.broken) × (l.broken ≤ length l.run) × IsInOrder (take l.ordered (as_run l.run)) × (IsInOrder (take l.broken (as_run l.run)) → ⊥)

abbrev pub decreases-loop-broken : goal.decreases-loop-broken
decreases-loop-broken l = l.broken - l.ordered
