use Rattle.std.proofs.Common.{◌≡◌, ◌+◌, ◌++◌, drop}
use Rattle.cola_plain_files.specs.Levels.{as_levels, as_runs, runs_from}
use Rattle.cola_plain_files.proofs.verdict.levels.runs_from.Given as goal

-- the runs so far, and those of the rest
abbrev pub invariant-loop-level : goal.invariant-loop-level
invariant-loop-level l =
    (as_runs l.runs.items ++ runs_from l.shows_shadow l.clock l.number (drop l.level-index (as_levels l.levels)) ≡ runs_from l.shadow l.clock l.first (as_levels l.levels))
    × (l.number ≡ l.first + l.level-index)
