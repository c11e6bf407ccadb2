use Rattle.std.proofs.Common.{◌≡◌, length, replicate}
use Rattle.cola_layout.specs.Marks.{no_marks}
use Rattle.cola_layout.proofs.header.empty_levels.Given as goal

abbrev pub invariant-loop-level : goal.invariant-loop-level
invariant-loop-level l = record {
  filled : l.empty.items ≡ replicate l._level no_marks;
  size : length l.empty.items ≡ l._level;
}
