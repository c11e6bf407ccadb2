use Rattle.std.proofs.Common.{◌≡◌, length, take}
use Rattle.cola_layout.specs.Marks.{all_numbers}
use Rattle.cola_level.specs.Marks.{all_marks_of}
use Rattle.cola_chain.proofs.lists.marks_of_levels.Given as goal

abbrev pub invariant-loop-level : goal.invariant-loop-level
invariant-loop-level l = record {
  built : all_numbers l.marks.items ≡ all_marks_of (take l.level-index l.levels);
  size : length l.marks.items ≡ l.level-index;
}
