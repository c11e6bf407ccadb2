use Rattle.std.proofs.Common.{◌≡◌, length, take}
use Rattle.cola_layout.specs.Marks.{all_numbers}
use Rattle.cola_mutation.specs.Levels.{levels_with}
use Rattle.cola_chain.proofs.lists.levels_of.Given as goal

abbrev pub invariant-loop-level_marks : goal.invariant-loop-level_marks
invariant-loop-level_marks l = record {
  built : l.levels.items ≡ levels_with (all_numbers (take l.level_marks-index l.marks));
  size : length l.levels.items ≡ l.level_marks-index;
}
