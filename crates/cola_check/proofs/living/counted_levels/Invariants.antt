use Rattle.std.proofs.Common.{◌≡◌, length}
use Rattle.cola_check.proofs.Common.{counted_from}
use Rattle.cola_check.proofs.living.counted_levels.Given as goal

abbrev pub invariant-loop-level : goal.invariant-loop-level
invariant-loop-level l = record {
  listed : l.levels.items ≡ counted_from l.header 0 l.level;
  size : length l.levels.items ≡ l.level;
}
