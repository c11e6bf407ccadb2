use Rattle.std.proofs.Common.{◌≡◌, ◌++◌, drop}
use Rattle.cola_pairs.specs.Live.{values}
use Rattle.cola_plain_runs.specs.Pairs.{as_entries}
use Rattle.cola_plain_runs.proofs.pairs.pairs_of.Given as goal

-- the pairs so far, and those of the rest
abbrev pub invariant-loop-entry : goal.invariant-loop-entry
invariant-loop-entry g l = l.pairs.items ++ values (drop l.entry-index (as_entries l.entries)) ≡ values (as_entries l.entries)
