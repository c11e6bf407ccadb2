use Rattle.std.proofs.Common.{◌≡◌, take, length}
use Rattle.cola_load.specs.Filled.{marks_from}
use Rattle.cola_load.proofs.loader_header.marks_of_levels.Given as goal

abbrev pub invariant-loop-level : goal.invariant-loop-level
invariant-loop-level l = record {
  filled : l.levels.items ≡ take l.level (marks_from l.rows l.geometry.bottom);
  size : length l.levels.items ≡ l.level;
}
