use Rattle.std.proofs.Common.{ℕ, ◌<◌}
use Rattle.cola_layout.specs.Fields.{fields_of}
use Rattle.cola_wide.specs.Runs.{IsOfLevel}
use Rattle.cola_wide.proofs.cells.is_of_run.Given as goal

abbrev pub invariant-loop-level : goal.invariant-loop-level
invariant-loop-level l = (k : ℕ) → k < l.level → IsOfLevel (fields_of l.header) k l.number → ⊥
