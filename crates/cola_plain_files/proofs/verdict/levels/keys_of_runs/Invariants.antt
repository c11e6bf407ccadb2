use Rattle.std.proofs.Common.{drop}
use Rattle.std.specs.List.{AllByRecursion}
use Rattle.cola_plain_files.specs.Levels.{HaveKeys, as_runs}
use Rattle.cola_plain_files.proofs.verdict.levels.keys_of_runs.Given as goal

-- the rest decides
abbrev pub invariant-loop-run : goal.invariant-loop-run
invariant-loop-run l = AllByRecursion HaveKeys (drop l.run-index (as_runs l.runs)) → AllByRecursion HaveKeys (as_runs l.runs)
