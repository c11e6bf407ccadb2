use Rattle.std.proofs.Common.{ℕ, ◌<◌}
use Rattle.cola_layout.specs.Marks.{FitsAt}
use Rattle.cola_layout.proofs.marks.levels_fit.Given as goal

abbrev pub invariant-loop-level : goal.invariant-loop-level
invariant-loop-level l = (j : ℕ) → j < l.level → FitsAt l.clock l.levels j
